-- `weighing::put_weight` meets its contract.
use Rattle.outlines.proofs.WeightsPut.{weight-made, weight-none, weight-put, weight-taken, weight-within}
use Rattle.outlines.proofs.weighing.put_weight.Goals as goal

pub returns-then-count-eq0 : goal.returns-then-count-eq0
returns-then-count-eq0 c = search weight-none

pub returns-in_default : goal.returns-in_default
returns-in_default c = search weight-made

pub slice_bounds-line-end : goal.slice_bounds-line-end
slice_bounds-line-end c = search weight-within

pub slice_bounds-put-end : goal.slice_bounds-put-end
slice_bounds-put-end c = search weight-taken

pub returns : goal.returns
returns c = search weight-put
