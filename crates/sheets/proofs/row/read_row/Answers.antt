-- `row::read_row` meets its contract.
use Rattle.std.proofs.Common.{Some}
use borrow.Author.Tests.{eq-eqb, ne_eqb}
use mathlib.Core.Path.{◌∙◌, ap, sym}
use Rattle.sheets.proofs.row.read_row.Goals as goal

pub returns-then-f-n : goal.returns-then-f-n
returns-then-f-n c = rw (ne_eqb _ _ c.if-f-n.true)

pub returns-then-not-bits_only : goal.returns-then-not-bits_only
returns-then-not-bits_only c = rw (eq-eqb _ _ c.if-f-n.false, sym c.bits_only.ensures ∙ c.if-not-bits_only.true)

pub returns : goal.returns
returns c =
    rw (eq-eqb _ _ c.if-f-n.false, sym c.bits_only.ensures ∙ c.if-not-bits_only.false) (ap Some c.word_of.ensures)
