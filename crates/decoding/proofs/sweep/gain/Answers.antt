-- `decoding::sweep::gain` meets its contract: a sample is a number of more bits.
use mir.Facts.{to_z-of_z, sfits_widen}
use mir.Syntax.{w16, w32}
use Rattle.decoding.proofs.sweep.gain.Goals as goal

pub overflow_cast-result : goal.overflow_cast-result
overflow_cast-result c = rw (to_z-of_z c.ranges.sample) (sfits_widen tt c.ranges.sample)

pub returns : goal.returns
returns c = rw (to_z-of_z c.ranges.sample) (to_z-of_z {w = w32} (sfits_widen {w = w16} {w' = w32} tt c.ranges.sample))
