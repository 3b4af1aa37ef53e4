-- `comparing::left_of` meets its contract.
use Rattle.outlines.proofs.RowsSearched.{left_is}
use Rattle.outlines.proofs.comparing.left_of.Goals as goal

pub returns : goal.returns
returns c = search left_is
