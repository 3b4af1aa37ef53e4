-- `plates::matrix::load_rows` meets its contract: place by place.
use lib.ListN.{length}
use Prim.Native.Nat.{◌≤◌}
use Rattle.plates.specs.Filling.{Holds, row_at}
use Rattle.plates.proofs.matrix.load_rows.Given as goal

abbrev pub invariant-loop-i : goal.invariant-loop-i
invariant-loop-i l = (l.i ≤ length l.rows) × Holds l.table (row_at l.rows) l.i
