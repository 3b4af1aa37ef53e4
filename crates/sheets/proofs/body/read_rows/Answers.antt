-- `body::read_rows` meets its contract.
use Rattle.std.proofs.Common.{Ok}
use mathlib.Core.Path.{◌∙◌, ap, refl, sym}
use native.Mathlib.Omega.{arith}
use Rattle.sheets.proofs.RowLines.{other-line, row_last, row_on, row-start, row-stop}
use Rattle.sheets.proofs.body.read_rows.Goals as goal

pub loop-at-init : goal.loop-at-init
loop-at-init c = row-start c.requires.from_in_bounds

pub returns-in_default : goal.returns-in_default
returns-in_default c = row-stop c.loop-at.invariant _ (sym c.in_default.ensures) (λ ws. refl)

pub returns-in_default-line : goal.returns-in_default-line
returns-in_default-line c = row-stop c.loop-at.invariant _ (sym c.in-Ok.ensures) (λ ws. other-line c.in-Ok.line ws c.in_default-line.not-Row)

pub loop-at-preserved : goal.loop-at-preserved
loop-at-preserved c =
    let u = c.until-end in
    rw c.put.ensures (row_on c.loop-at.invariant u.result (omega arith) u.ensures c.in-Row.word (sym c.in-Ok.ensures ∙ ap Ok c.in-Row.is))

pub returns : goal.returns
returns c = row_last c.loop-at.invariant c.loop-at-test.false
