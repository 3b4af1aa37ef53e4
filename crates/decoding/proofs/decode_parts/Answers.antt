-- `decoding::decode_parts` meets its contract: refusal 5, or what decoding replies of a prepared plate.
use Rattle.plates.specs.Prepare.{lent}
use Rattle.decoding.proofs.DecodeCalls.{refused-5}
use Rattle.decoding.proofs.decode_parts.Goals as goal

pub decode_prepared-requires : goal.decode_prepared-requires
decode_prepared-requires c = c.parts_prepared.ensures.yes_is c.if-parts_prepared.true

pub returns : goal.returns
returns c =
    let plate = lent c.args.plate in
    refused-5 plate c.args.samples.now c.args.metrics.now c.args.decisions.now
    (c.parts_prepared.ensures.no_is c.if-parts_prepared.false)
