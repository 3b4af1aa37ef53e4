-- `pieces::put` meets its contract.
use Rattle.outlines.proofs.Putting.{bytes-end, bytes_on, bytes-size, bytes-start}
use Rattle.outlines.proofs.pieces.put.Goals as goal

pub loop-byte-init : goal.loop-byte-init
loop-byte-init c = search bytes-start

pub loop-byte-preserved : goal.loop-byte-preserved
loop-byte-preserved c = search bytes_on

pub shape_of-room : goal.shape_of-room
shape_of-room c = search bytes-size

pub returns : goal.returns
returns c = search bytes-end
