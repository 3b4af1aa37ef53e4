-- `pieces::put_positions` meets its contract.
use Rattle.outlines.proofs.Putting.{positions-end, positions-on, positions-size, positions-start}
use Rattle.outlines.proofs.pieces.put_positions.Goals as goal

pub loop-i-init : goal.loop-i-init
loop-i-init c = search positions-start

pub loop-i-preserved : goal.loop-i-preserved
loop-i-preserved c = search positions-on

pub shape_of-room : goal.shape_of-room
shape_of-room c = search positions-size

pub returns : goal.returns
returns c = search positions-end
