-- `head::read_head` meets its contract.
use lib.Seq.{length-take-le}
use mathlib.Core.Logic.{⊎_elim}
use mathlib.Core.Path.{sym}
use Rattle.sheets.proofs.Heads.{head-bad, head-is, head-none, head-open, head-over}
use Rattle.sheets.proofs.head.read_head.Goals as goal

pub returns-then-end-input : goal.returns-then-end-input
returns-then-end-input c =
    let u = c.until-end in
    head-open c.args.input.now u.result u.ensures c.if-end-input.true

pub slice_bounds-read_cover-end : goal.slice_bounds-read_cover-end
slice_bounds-read_cover-end c = sym (length-take-le _ _ c.until-end.ensures.high)

pub returns-then-n-eq0 : goal.returns-then-n-eq0
returns-then-n-eq0 c =
    let l = c.read_cover-line in
    let u = c.until-end in
    ⊎_elim
    (λ z. head-none c.args.input.now u.result u.ensures c.if-end-input.false l.result (sym l.ensures) c.in-Ok.cover c.in-Ok.is z)
    (λ w. head-over c.args.input.now u.result u.ensures c.if-end-input.false l.result (sym l.ensures) c.in-Ok.cover c.in-Ok.is w.0 w.1)
    c.then-n-eq0.either

pub returns-in-Err : goal.returns-in-Err
returns-in-Err c =
    let l = c.read_cover-line in
    let u = c.until-end in
    head-bad c.args.input.now u.result u.ensures c.if-end-input.false l.result (sym l.ensures) c.in-Err.fault c.in-Err.is c.refusal_of.result c.refusal_of.ensures

pub returns : goal.returns
returns c =
    let l = c.read_cover-line in
    let u = c.until-end in
    head-is c.args.input.now u.result u.ensures c.if-end-input.false l.result (sym l.ensures) c.in-Ok.cover c.in-Ok.is c.if-n-eq0.false c.if-n-gt64.false
