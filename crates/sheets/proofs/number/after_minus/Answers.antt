-- `number::after_minus` meets its contract.
use Rattle.std.proofs.Common.{Some}
use borrow.Author.Tests.{eq-eqb, ne_eqb}
use mathlib.Core.Path.{◌∙◌, ap, sym}
use mir.Facts.{to_z-of_z}
use mir.Syntax.{w16}
use Rattle.sheets.proofs.number.after_minus.Goals as goal

pub returns-in_default : goal.returns-in_default
returns-in_default c = rw (sym c.read_number.ensures.is ∙ c.in_default.is)

pub returns-then-value-eq0 : goal.returns-then-value-eq0
returns-then-value-eq0 c = rw (sym c.read_number.ensures.is ∙ c.in-Some.is, eq-eqb _ _ c.if-value-eq0.true)

pub below_zero-requires : goal.below_zero-requires
below_zero-requires c = rw c.in-Some.is at c.read_number.ensures.below

pub returns : goal.returns
returns c =
    rw (sym c.read_number.ensures.is ∙ c.in-Some.is, ne_eqb _ _ c.if-value-eq0.false)
    (ap Some (to_z-of_z {w = w16} (record { sfits = c.below_zero.type_inv }) ∙ c.below_zero.ensures))
