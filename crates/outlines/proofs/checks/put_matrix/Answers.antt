-- `checks::put_matrix` meets its contract.
use borrow.Author.Rules.{rules}
use Rattle.outlines.proofs.ChecksWritten.{rows-counted}
use Rattle.outlines.proofs.MatricesGiven.{rows-taken-few}
use Rattle.outlines.proofs.checks.put_matrix.Goals as goal

pub slice_bounds-put_sheet-end : goal.slice_bounds-put_sheet-end
slice_bounds-put_sheet-end c = search rows-counted

pub put_sheet-requires : goal.put_sheet-requires
put_sheet-requires c =
    record {
      n_bound = search rules;
      rows_len_bound = search rows-taken-few;
    }
