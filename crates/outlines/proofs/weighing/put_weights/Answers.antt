-- `weighing::put_weights` meets its contract.
use Rattle.outlines.proofs.WeightsPut.{lines_end, lines-on, lines-size, lines_start}
use Rattle.outlines.proofs.weighing.put_weights.Goals as goal

pub loop-weight-init : goal.loop-weight-init
loop-weight-init c = search lines_start

pub loop-weight-preserved : goal.loop-weight-preserved
loop-weight-preserved c = search lines-on

pub shape_of-room : goal.shape_of-room
shape_of-room c = search lines-size

pub returns : goal.returns
returns c = search lines_end
