-- `line::row_rest` meets its contract.
use mathlib.Core.Path.{◌∙◌, ap}
use native.Mathlib.Omega.{arith}
use Rattle.sheets.proofs.Parts.{after_last, after_more, after-some}
use Rattle.sheets.specs.Lines.{row_is}
use Rattle.sheets.specs.Text.{tab}
use Rattle.sheets.proofs.line.row_rest.Goals as goal

pub returns-then-a-line : goal.returns-then-a-line
returns-then-a-line c =
    let a = c.args in
    rw (after_last tab a.line.now a.a (omega arith) c.if-a-line.true)

pub returns-then-b-line : goal.returns-then-b-line
returns-then-b-line c =
    let a = c.args in
    let u = c.until-b in
    rw (
      after_more tab a.line.now a.a (omega arith) c.if-a-line.false u.result u.ensures,
      after-some tab a.line.now u.result u.ensures.high c.if-b-line.true,
    )

pub returns : goal.returns
returns c =
    let a = c.args in
    let u = c.until-b in
    rw (
      after_more tab a.line.now a.a (omega arith) c.if-a-line.false u.result u.ensures,
      after_last tab a.line.now u.result u.ensures.high c.if-b-line.false,
    )
    (c.ok_or.ensures.value ∙ ap row_is c.read_row.ensures)
