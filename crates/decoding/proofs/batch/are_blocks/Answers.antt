-- `decoding::batch::are_blocks` meets its contract.
use Rattle.decoding.proofs.Batched.{other-count, some_left, whole-blocks}
use Rattle.decoding.proofs.batch.are_blocks.Goals as goal

pub returns-then-samples-n-ne0 : goal.returns-then-samples-n-ne0
returns-then-samples-n-ne0 c = search some_left

pub returns-then-samples-n : goal.returns-then-samples-n
returns-then-samples-n c = search other-count

pub returns : goal.returns
returns c = search whole-blocks
