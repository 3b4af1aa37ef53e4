-- `listed::branch_rest` meets its contract: the fields one after the other, and none too few or too many.
use native.Mathlib.Omega.{arith}
use Rattle.sheets.proofs.Parts.{after_last, after_more, after-some}
use Rattle.sheets.specs.Text.{tab}
use Rattle.sheets.proofs.listed.branch_rest.Goals as goal

pub returns-then-a-line : goal.returns-then-a-line
returns-then-a-line c = rw (after_last tab c.args.line.now c.args.a (omega arith) c.if-a-line.true)

pub returns-then-b-line : goal.returns-then-b-line
returns-then-b-line c =
    rw (
      after_more tab c.args.line.now c.args.a (omega arith) c.if-a-line.false c.until-b.result c.until-b.ensures,
      after_last tab c.args.line.now c.until-b.result c.until-b.ensures.high c.if-b-line.true,
    )

pub returns-then-c-line : goal.returns-then-c-line
returns-then-c-line c =
    rw (
      after_more tab c.args.line.now c.args.a (omega arith) c.if-a-line.false c.until-b.result c.until-b.ensures,
      after_more tab c.args.line.now c.until-b.result c.until-b.ensures.high c.if-b-line.false c.until-c.result c.until-c.ensures,
      after_last tab c.args.line.now c.until-c.result c.until-c.ensures.high c.if-c-line.true,
    )

pub returns-then-d-line : goal.returns-then-d-line
returns-then-d-line c =
    rw (
      after_more tab c.args.line.now c.args.a (omega arith) c.if-a-line.false c.until-b.result c.until-b.ensures,
      after_more tab c.args.line.now c.until-b.result c.until-b.ensures.high c.if-b-line.false c.until-c.result c.until-c.ensures,
      after_more tab c.args.line.now c.until-c.result c.until-c.ensures.high c.if-c-line.false c.until-d.result c.until-d.ensures,
      after_last tab c.args.line.now c.until-d.result c.until-d.ensures.high c.if-d-line.true,
    )

pub returns-then-e-line : goal.returns-then-e-line
returns-then-e-line c =
    rw (
      after_more tab c.args.line.now c.args.a (omega arith) c.if-a-line.false c.until-b.result c.until-b.ensures,
      after_more tab c.args.line.now c.until-b.result c.until-b.ensures.high c.if-b-line.false c.until-c.result c.until-c.ensures,
      after_more tab c.args.line.now c.until-c.result c.until-c.ensures.high c.if-c-line.false c.until-d.result c.until-d.ensures,
      after_more tab c.args.line.now c.until-d.result c.until-d.ensures.high c.if-d-line.false c.until-e.result c.until-e.ensures,
      after-some tab c.args.line.now c.until-e.result c.until-e.ensures.high c.if-e-line.true,
    )

pub returns : goal.returns
returns c =
    rw (
      after_more tab c.args.line.now c.args.a (omega arith) c.if-a-line.false c.until-b.result c.until-b.ensures,
      after_more tab c.args.line.now c.until-b.result c.until-b.ensures.high c.if-b-line.false c.until-c.result c.until-c.ensures,
      after_more tab c.args.line.now c.until-c.result c.until-c.ensures.high c.if-c-line.false c.until-d.result c.until-d.ensures,
      after_more tab c.args.line.now c.until-d.result c.until-d.ensures.high c.if-d-line.false c.until-e.result c.until-e.ensures,
      after_last tab c.args.line.now c.until-e.result c.until-e.ensures.high c.if-e-line.false,
    )
    c.branch_fields.ensures
