-- `plates::tested::all_heads` meets its contract. The loop's invariant: the word has the heads of the rows passed.
use lib.ListN.{length}
use Prim.Native.Nat.{◌<◌, ◌≤◌}
use Rattle.plates.specs.Tested.{HeadsOf}
use Rattle.plates.proofs.tested.all_heads.Given as goal

abbrev pub invariant-loop-row : goal.invariant-loop-row
invariant-loop-row l = (l.row-index ≤ length l.rows) × HeadsOf l.rows (λ j. j < l.row-index) l.heads
