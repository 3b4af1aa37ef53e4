-- `pieces::put_number` meets its contract.
use Rattle.outlines.proofs.Putting.{digit-put, digits-put}
use Rattle.outlines.proofs.pieces.put_number.Goals as goal

pub returns-then-value-lt10 : goal.returns-then-value-lt10
returns-then-value-lt10 c = search digit-put

pub returns : goal.returns
returns c = search digits-put
