-- `block::read_heard` meets its contract.
use Rattle.sheets.proofs.BlockLines.{heard-bad, heard-none, heard-on}
use native.Mathlib.Omega.{arith}
use mathlib.Core.Path.{◌∙◌, sym}
use Rattle.sheets.proofs.block.read_heard.Goals as goal

pub returns-then-a-line : goal.returns-then-a-line
returns-then-a-line c =
    let a = c.args in
    heard-none a.line.now a.a (omega arith) c.if-a-line.true a.room.now

pub returns-in_default : goal.returns-in_default
returns-in_default c =
    let a = c.args in
    let u = c.until-b in
    heard-bad a.line.now a.a (omega arith) c.if-a-line.false u.result u.ensures (sym c.read_counter_field-counter.ensures.value ∙ c.in_default.is) a.room.now

pub returns : goal.returns
returns c =
    let a = c.args in
    let u = c.until-b in
    heard-on a.line.now a.a (omega arith) c.if-a-line.false u.result u.ensures c.in-Some.field-0 (sym c.read_counter_field-counter.ensures.value ∙ c.in-Some.is) a.room.now c.read_samples.result _ c.read_samples.ensures
