-- `put_plate` meets its contract.
use Rattle.outlines.proofs.Fitting.{plate-short, plate-written, rows_few, rows-there, rows-used}
use Rattle.outlines.proofs.put_plate.Goals as goal

pub slice_bounds-table-end : goal.slice_bounds-table-end
slice_bounds-table-end c = search rows-there

pub slice_bounds-rows-end : goal.slice_bounds-rows-end
slice_bounds-rows-end c = search rows-used

pub put_sheet-requires : goal.put_sheet-requires
put_sheet-requires c =
    record {
      n_bound = search plate-short;
      rows_len_bound = search rows_few;
    }

pub returns : goal.returns
returns c = search plate-written
