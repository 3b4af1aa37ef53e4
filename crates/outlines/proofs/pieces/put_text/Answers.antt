-- `pieces::put_text` meets its contract.
use Rattle.outlines.proofs.Putting.{text-put}
use Rattle.outlines.proofs.pieces.put_text.Goals as goal

pub returns : goal.returns
returns c = search text-put
