-- `line::block_is` meets its contract.
use Rattle.sheets.proofs.line.block_is.Goals as goal

pub returns-in-Err : goal.returns-in-Err
returns-in-Err c = rw c.in-Err.is
