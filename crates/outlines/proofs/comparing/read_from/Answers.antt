-- `comparing::read_from` meets its contract.
use Rattle.outlines.proofs.RowsSearched.{read_first, read-last}
use Rattle.outlines.proofs.comparing.read_from.Goals as goal

pub returns-in-First : goal.returns-in-First
returns-in-First c = search read_first

pub returns-in-Last : goal.returns-in-Last
returns-in-Last c = search read-last
