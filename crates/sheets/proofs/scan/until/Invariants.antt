-- `scan::until` meets its contract. The invariant: from i on the first stop is where it is from `at` on.
use lib.ListN.{drop, length}
use mathlib.Core.Path.{◌≡◌}
use Prim.Native.Nat.{◌+◌, ◌≤◌}
use Rattle.sheets.specs.Text.{till}
use Rattle.sheets.proofs.scan.until.Given as goal

abbrev pub invariant-loop-i : goal.invariant-loop-i
invariant-loop-i l = (l.at ≤ l.i) × (l.i ≤ length l.text) × (l.i + till l.stop (drop l.i l.text) ≡ l.at + till l.stop (drop l.at l.text))
