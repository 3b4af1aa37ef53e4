-- `cover::cover_rest` meets its contract: the fields one after the other, and none too few or too many.
use native.Mathlib.Omega.{arith}
use Rattle.sheets.proofs.Parts.{after_last, after_more, after-some}
use Rattle.sheets.specs.Text.{tab}
use Rattle.sheets.proofs.cover.cover_rest.Goals as goal

pub returns-then-a-line : goal.returns-then-a-line
returns-then-a-line c =
    let a = c.args in
    rw (after_last tab a.line.now a.a (omega arith) c.if-a-line.true)

pub returns-then-b-line : goal.returns-then-b-line
returns-then-b-line c =
    let a = c.args in
    let l = a.line.now in
    let u = c.until-b in
    rw (after_more tab l a.a (omega arith) c.if-a-line.false u.result u.ensures, after_last tab l u.result u.ensures.high c.if-b-line.true)

pub returns-then-c-line : goal.returns-then-c-line
returns-then-c-line c =
    let a = c.args in
    let l = a.line.now in
    let u = c.until-b in
    let v = c.until-c in
    rw (
      after_more tab l a.a (omega arith) c.if-a-line.false u.result u.ensures,
      after_more tab l u.result u.ensures.high c.if-b-line.false v.result v.ensures,
      after_last tab l v.result v.ensures.high c.if-c-line.true,
    )

pub returns-then-d-line : goal.returns-then-d-line
returns-then-d-line c =
    let a = c.args in
    let l = a.line.now in
    let u = c.until-b in
    let v = c.until-c in
    let w = c.until-d in
    rw (
      after_more tab l a.a (omega arith) c.if-a-line.false u.result u.ensures,
      after_more tab l u.result u.ensures.high c.if-b-line.false v.result v.ensures,
      after_more tab l v.result v.ensures.high c.if-c-line.false w.result w.ensures,
      after-some tab l w.result w.ensures.high c.if-d-line.true,
    )

pub returns : goal.returns
returns c =
    let a = c.args in
    let l = a.line.now in
    let u = c.until-b in
    let v = c.until-c in
    let w = c.until-d in
    rw (
      after_more tab l a.a (omega arith) c.if-a-line.false u.result u.ensures,
      after_more tab l u.result u.ensures.high c.if-b-line.false v.result v.ensures,
      after_more tab l v.result v.ensures.high c.if-c-line.false w.result w.ensures,
      after_last tab l w.result w.ensures.high c.if-d-line.false,
    )
    c.cover_fields.ensures
