-- `decoding::batch::decode_blocks` meets its contract: refusal 5, or what a prepared plate's blocks are replied.
use Rattle.plates.specs.Prepare.{lent}
use Rattle.decoding.proofs.BatchCalls.{refused-5}
use Rattle.decoding.proofs.batch.decode_blocks.Goals as goal

pub blocks_prepared-requires : goal.blocks_prepared-requires
blocks_prepared-requires c = c.parts_prepared.ensures.yes_is c.if-parts_prepared.true

pub returns : goal.returns
returns c =
    let plate = lent c.args.plate in
    refused-5 plate c.args.samples.now c.args.found.now c.args.scores.now c.args.metrics.now
    c.args.decisions.now (c.parts_prepared.ensures.no_is c.if-parts_prepared.false)
