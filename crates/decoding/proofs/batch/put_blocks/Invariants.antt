-- `decoding::batch::put_blocks` meets its contract. The loop's invariant: the first blocks are stored.
use lib.ListN.{length}
use Prim.Native.Nat.{◌≤◌}
use Rattle.decoding.specs.Batching.{BlocksPut}
use Rattle.decoding.proofs.batch.put_blocks.Given as goal

abbrev pub invariant-loop-at : goal.invariant-loop-at
invariant-loop-at l = (l.at ≤ length l.initial.found) × BlocksPut l.rows l.sizes l.samples l.initial.found l.initial.scores l.initial.metrics l.initial.decisions l.at l.found l.scores l.metrics l.decisions l.counts
