-- `decoding::decode` meets its contract: it is the call over the plate's parts.
use Rattle.decoding.proofs.decode.Goals as goal

pub returns : goal.returns
returns c = rw (c.lend.ensures.whole c.widened-profile.ensures) at c.decode_parts.ensures
