-- `body::after_end` meets its contract.
use mathlib.Core.Path.{sym}
use native.Mathlib.Omega.{arith}
use Rattle.sheets.proofs.Endings.{extra-line, extra-open}
use Rattle.sheets.proofs.Passing.{at-end}
use Rattle.sheets.proofs.body.after_end.Goals as goal

pub returns-then-at-input : goal.returns-then-at-input
returns-then-at-input c = rw (at-end c.args.input.now c.args.at c.if-at-input.true)

pub returns-then-end-input : goal.returns-then-end-input
returns-then-end-input c =
    let a = c.args in
    let u = c.until-end in
    sym (extra-open a.input.now a.at u.result (omega arith) c.if-at-input.false u.ensures c.if-end-input.true)

pub returns : goal.returns
returns c =
    let a = c.args in
    let u = c.until-end in
    sym (extra-line a.input.now a.at u.result (omega arith) c.if-at-input.false u.ensures c.if-end-input.false)
