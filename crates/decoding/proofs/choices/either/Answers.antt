use borrow.Author.Tests.{eq-eqb, ne_eqb}
use mir.Facts.{to_z-of_z}
use Rattle.decoding.proofs.choices.either.Goals as goal

pub returns-then-digit-eq0 : goal.returns-then-digit-eq0
returns-then-digit-eq0 c = rw (eq-eqb _ _ c.if-digit-eq0.true) (to_z-of_z c.ranges.x)

pub returns-else-digit-eq0 : goal.returns-else-digit-eq0
returns-else-digit-eq0 c = rw (ne_eqb _ _ c.if-digit-eq0.false) (to_z-of_z c.ranges.y)
