-- `opening::opened` meets its contract.
use Rattle.outlines.proofs.Openings.{opened-refused, opened-sheet, rows-within}
use Rattle.outlines.proofs.opening.opened.Goals as goal

pub prepared_of-requires : goal.prepared_of-requires
prepared_of-requires c = search rows-within

pub returns-in-Ok : goal.returns-in-Ok
returns-in-Ok c = search opened-sheet

pub returns-in-Err : goal.returns-in-Err
returns-in-Err c = search opened-refused
