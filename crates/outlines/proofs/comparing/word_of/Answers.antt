-- `comparing::word_of` meets its contract.
use Rattle.outlines.proofs.RowsSearched.{row-alone}
use Rattle.outlines.proofs.comparing.word_of.Goals as goal

pub returns : goal.returns
returns c = search row-alone
