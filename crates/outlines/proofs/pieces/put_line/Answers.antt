-- `pieces::put_line` meets its contract.
use Rattle.outlines.proofs.Putting.{line-put}
use Rattle.outlines.proofs.pieces.put_line.Goals as goal

pub returns : goal.returns
returns c = search line-put
