-- `plates::is_prepared` meets its contract: a plate is prepared exactly if it is sound, and the parts lent are the plate.
use Rattle.plates.proofs.SoundIsPrepared.{sound-tested}
use Rattle.plates.proofs.is_prepared.Goals as goal

pub returns : goal.returns
returns c = sound-tested (rw (c.lend.ensures.whole c.widened-profile.ensures) at c.sound.ensures)
