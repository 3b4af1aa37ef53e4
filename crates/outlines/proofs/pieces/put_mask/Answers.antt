-- `pieces::put_mask` meets its contract.
use Rattle.outlines.proofs.Putting.{mask-none, mask-put}
use Rattle.outlines.proofs.pieces.put_mask.Goals as goal

pub returns-then-mask-eq0 : goal.returns-then-mask-eq0
returns-then-mask-eq0 c = search mask-none

pub returns : goal.returns
returns c = search mask-put
