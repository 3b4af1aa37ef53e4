-- `pieces::put_rows` meets its contract.
use Rattle.outlines.proofs.Putting.{RowsPut}
use Rattle.outlines.proofs.pieces.put_rows.Given as goal

abbrev pub invariant-loop-row : goal.invariant-loop-row
invariant-loop-row l = RowsPut l.initial.room l.at l.rows l.n l.row-index l.room l.next
