-- `columns::largest_of` meets its contract: the largest from i on is found.
use lib.ListN.{drop, length}
use mathlib.Core.Path.{◌≡◌}
use Prim.Native.Nat.{◌≤◌}
use Rattle.alists.specs.Lists.{largest}
use Rattle.alists.proofs.columns.largest_of.Given as goal

abbrev pub invariant-loop-i : goal.invariant-loop-i
invariant-loop-i l = (l.i ≤ length l.weights) × (l.most ≡ largest (drop l.i l.weights))
