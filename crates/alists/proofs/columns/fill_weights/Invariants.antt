-- `columns::fill_weights` meets its contract: the weights from i on are still to be put.
use lib.ListN.{drop, length}
use lib.Seq.{sets}
use mathlib.Core.List.{map}
use mathlib.Core.Path.{◌≡◌}
use Prim.Native.Nat.{◌≤◌}
use Rattle.alists.specs.Lists.{weight}
use Rattle.alists.proofs.columns.fill_weights.Given as goal

abbrev pub invariant-loop-i : goal.invariant-loop-i
invariant-loop-i l = (l.i ≤ length l.words) × (sets l.table l.i (map weight (drop l.i l.words)) ≡ sets l.initial.table 0 (map weight l.words))
