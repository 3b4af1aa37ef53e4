-- `decoding::sweep::gain_at` meets its contract: the sign is turned by the bit of the rest.
use Rattle.decoding.specs.Sweeping.{forced_to}
use Rattle.decoding.proofs.TurnedSamples.{gain-small, gain-turned}
use Rattle.decoding.proofs.sweep.gain_at.Goals as goal

pub sign_of-requires : goal.sign_of-requires
sign_of-requires c =
    gain-small c.args.sizes.rest (forced_to c.args.samples.now c.args.forced) c.args.t c.requires.pos_bound c.forced_gain.ensures

pub returns : goal.returns
returns c =
    gain-turned c.args.sizes.rest (forced_to c.args.samples.now c.args.forced) c.args.t c.requires.pos_bound c.forced_gain.ensures
    _ _ c.bit_at.ensures c.sign_of.ensures
