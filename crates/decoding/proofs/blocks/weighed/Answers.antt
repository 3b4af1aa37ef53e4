-- `blocks::weighed` meets its contract.
use borrow.Author.Tests.{eq-eqb, ne_eqb}
use Rattle.decoding.proofs.blocks.weighed.Goals as goal

pub returns-then-digit-eq0 : goal.returns-then-digit-eq0
returns-then-digit-eq0 c = rw (eq-eqb _ _ c.if-digit-eq0.true)

pub returns-else-digit-eq0 : goal.returns-else-digit-eq0
returns-else-digit-eq0 c = rw (ne_eqb _ _ c.if-digit-eq0.false)
