-- `weighing::put_last` meets its contract.
use Rattle.outlines.proofs.WeightsPut.{last_made, last-put, last_taken, last_within}
use Rattle.outlines.proofs.weighing.put_last.Goals as goal

pub returns-in_default : goal.returns-in_default
returns-in_default c = search last_made

pub slice_bounds-line-end : goal.slice_bounds-line-end
slice_bounds-line-end c = search last_within

pub slice_bounds-put-end : goal.slice_bounds-put-end
slice_bounds-put-end c = search last_taken

pub returns : goal.returns
returns c = search last-put
