-- `blocks::block` meets its contract. The strips from `half` on are done.
use Rattle.decoding.proofs.TwoStrips.{Strips}
use Rattle.decoding.proofs.blocks.block.Given as goal

abbrev pub invariant-loop-half : goal.invariant-loop-half
invariant-loop-half l = Strips l.initial.metrics l.step.from l.step.to l.step.section l.step.gain l.first l.initial.raised l.half l.metrics l.near l.far l.word l.raised
