-- `line::end_rest` meets its contract.
use native.Mathlib.Omega.{arith}
use Rattle.sheets.proofs.Parts.{after_last, after-some}
use Rattle.sheets.specs.Text.{tab}
use Rattle.sheets.proofs.line.end_rest.Goals as goal

pub returns-then-a-line : goal.returns-then-a-line
returns-then-a-line c =
    let a = c.args in
    rw (after_last tab a.line.now a.a (omega arith) c.if-a-line.true)

pub returns : goal.returns
returns c =
    let a = c.args in
    rw (after-some tab a.line.now a.a (omega arith) c.if-a-line.false)
