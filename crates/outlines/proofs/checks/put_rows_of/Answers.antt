-- `checks::put_rows_of` meets its contract.
use Rattle.outlines.proofs.Fitting.{rows-used}
use Rattle.outlines.proofs.checks.put_rows_of.Goals as goal

pub slice_bounds-write-end : goal.slice_bounds-write-end
slice_bounds-write-end c = search rows-used
