-- `plates::parts_prepared` meets its contract: parts of other lengths are those of no prepared plate, and a plate is prepared exactly if it is sound.
use mathlib.Core.Bool.{false≢true}
use native.Mathlib.Omega.{arith}
use Rattle.plates.proofs.SoundIsPrepared.{sound, sound-tested}
use Rattle.plates.proofs.parts_prepared.Goals as goal

pub returns-then-plate-ne64 : goal.returns-then-plate-ne64
returns-then-plate-ne64 c =
    record { yes_is = λ e. absurd (false≢true e); no_is = λ e p. omega (arith, (sound p).table, c.if-plate-ne64.true) }

pub returns-then-plate-ne65 : goal.returns-then-plate-ne65
returns-then-plate-ne65 c =
    record { yes_is = λ e. absurd (false≢true e); no_is = λ e p. omega (arith, (sound p).entries, c.if-plate-ne65.true) }

pub returns : goal.returns
returns c = sound-tested c.sound.ensures
