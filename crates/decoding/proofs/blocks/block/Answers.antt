-- `blocks::block` meets its contract. The strips from i on are done.
use borrow.Author.Rules.{rules}
use Rattle.decoding.proofs.TwoStrips.{strip-asks, strip-place, strip-shift, strips-all, strips-more, strips-none}
use Rattle.decoding.proofs.blocks.block.Goals as goal

pub loop-half-init : goal.loop-half-init
loop-half-init c = search strips-none

pub overflow_shr-bits : goal.overflow_shr-bits
overflow_shr-bits c = search strip-shift

pub overflow_add-first : goal.overflow_add-first
overflow_add-first c = let l = strip-place c.requires c.loop-half.invariant c.loop-half-test.true in search rules

pub strip-run-requires : goal.strip-run-requires
strip-run-requires c = search strip-asks

pub loop-half-preserved : goal.loop-half-preserved
loop-half-preserved c = search strips-more

pub shape_of-metrics : goal.shape_of-metrics
shape_of-metrics c = c.loop-half.invariant.done.part.size

pub returns : goal.returns
returns c = search strips-all
