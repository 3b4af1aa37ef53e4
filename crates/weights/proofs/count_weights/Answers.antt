-- `weights::count_weights` meets its contract: it is the call over the plate's parts.
use Rattle.weights.proofs.count_weights.Goals as goal

pub returns : goal.returns
returns c = rw (c.lend.ensures.whole c.widened-profile.ensures) at c.count_weights_parts.ensures
