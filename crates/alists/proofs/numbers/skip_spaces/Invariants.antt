-- `numbers::skip_spaces` meets its contract. The invariant: what stands after the spaces from i on stands after those from `at` on.
use lib.ListN.{drop, length}
use mathlib.Core.Path.{◌≡◌}
use Prim.Native.Nat.{◌≤◌}
use Rattle.alists.specs.Lines.{skipped}
use Rattle.alists.proofs.numbers.skip_spaces.Given as goal

abbrev pub invariant-loop-i : goal.invariant-loop-i
invariant-loop-i l = (l.i ≤ length l.text) × (skipped (drop l.i l.text) ≡ skipped (drop l.at l.text))
