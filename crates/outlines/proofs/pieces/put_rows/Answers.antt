-- `pieces::put_rows` meets its contract.
use Rattle.outlines.proofs.Putting.{rows_end, rows_on, rows_size, rows_start}
use Rattle.outlines.proofs.pieces.put_rows.Goals as goal

pub loop-row-init : goal.loop-row-init
loop-row-init c = search rows_start

pub loop-row-preserved : goal.loop-row-preserved
loop-row-preserved c = search rows_on

pub shape_of-room : goal.shape_of-room
shape_of-room c = search rows_size

pub returns : goal.returns
returns c = search rows_end
