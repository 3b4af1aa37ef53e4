-- `row::bit_of` meets its contract.
use borrow.Author.Tests.{eq-eqb, ne_eqb}
use Rattle.sheets.proofs.row.bit_of.Goals as goal

pub returns-then-x-eq49 : goal.returns-then-x-eq49
returns-then-x-eq49 c = simp (eq-eqb _ _ c.if-x-eq49.true)

pub returns-else-x-eq49 : goal.returns-else-x-eq49
returns-else-x-eq49 c = simp (ne_eqb _ _ c.if-x-eq49.false)
