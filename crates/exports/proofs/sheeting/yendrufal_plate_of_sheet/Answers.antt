-- `exports::sheeting::yendrufal_plate_of_sheet` meets its promise.
use borrow.Author.Rules.{rules}
use mathlib.Core.Path.{sym, ◌∙◌}
use native.Mathlib.Omega.{arith}
use Rattle.exports.proofs.CallsMade.{misshaped}
use Rattle.exports.proofs.SheetCrossed.{sheet-accepted, sheet-refused}
use Rattle.exports.proofs.sheeting.yendrufal_plate_of_sheet.Goals as goal

pub returns-then-plate-lt132 : goal.returns-then-plate-lt132
returns-then-plate-lt132 c = misshaped (λ s. omega (arith, s.0))

pub returns-then-order-lt1 : goal.returns-then-order-lt1
returns-then-order-lt1 c = misshaped (λ s. omega (arith, s.1))

pub returns-then-at-lt2 : goal.returns-then-at-lt2
returns-then-at-lt2 c = misshaped (λ s. omega (arith, s.2))

pub returns-in-Ok : goal.returns-in-Ok
returns-in-Ok c =
    sheet-accepted _ _ _ (search rules) c.open-report.ensures
    (sym c.verdict_of-verdict.ensures ∙ c.in-Ok.is)
    c.put_plate.ensures c.order_number.ensures

pub returns-in-Err : goal.returns-in-Err
returns-in-Err c =
    sheet-refused _ _ _ (search rules) c.open-report.ensures
    (sym c.verdict_of-verdict.ensures ∙ c.in-Err.is)
    c.refused_in.ensures
