-- `comparing::outside` meets its contract.
use Rattle.outlines.proofs.Fitting.{plate-short, rows-there, rows-used}
use Rattle.outlines.proofs.PlatesSearched.{outside-found}
use Rattle.outlines.proofs.comparing.outside.Goals as goal

pub slice_bounds-table-end : goal.slice_bounds-table-end
slice_bounds-table-end c = search rows-there

pub slice_bounds-rows-end : goal.slice_bounds-rows-end
slice_bounds-rows-end c = search rows-used

pub slice_bounds-others-end : goal.slice_bounds-others-end
slice_bounds-others-end c = search rows-there

pub slice_bounds-first_out-end : goal.slice_bounds-first_out-end
slice_bounds-first_out-end c = search rows-used

pub first_out-requires : goal.first_out-requires
first_out-requires c = search plate-short

pub returns : goal.returns
returns c = search outside-found
