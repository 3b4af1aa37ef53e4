-- `line::heard_rest` meets its contract.
use Rattle.sheets.specs.Text.{tab}
use Rattle.sheets.specs.Lines.{block_is}
use Rattle.sheets.proofs.Parts.{after_last, after-some}
use native.Mathlib.Omega.{arith}
use mathlib.Core.Path.{◌∙◌, ap}
use Rattle.sheets.proofs.line.heard_rest.Goals as goal

pub returns-then-a-line : goal.returns-then-a-line
returns-then-a-line c =
    let a = c.args in
    rw (after_last tab a.line.now a.a (omega arith) c.if-a-line.true)

pub returns : goal.returns
returns c =
    let a = c.args in
    rw (after-some tab a.line.now a.a (omega arith) c.if-a-line.false) (rw (after-some tab a.line.now a.a (omega arith) c.if-a-line.false) at (c.block_is.ensures ∙ ap block_is c.read_heard-samples.ensures.is))
