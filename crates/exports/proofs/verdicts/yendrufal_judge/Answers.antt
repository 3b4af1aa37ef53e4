-- `exports::verdicts::yendrufal_judge` meets its promise.
use Rattle.exports.proofs.CallsMade.{misshaped}
use Rattle.exports.proofs.VerdictCrossed.{judge-refused, judge-told}
use Rattle.exports.proofs.verdicts.yendrufal_judge.Goals as goal

pub returns-then-not-judge_shaped : goal.returns-then-not-judge_shaped
returns-then-not-judge_shaped c = misshaped (c.judge_shaped.ensures.no_is c.if-not-judge_shaped.true)

pub parts_of-requires : goal.parts_of-requires
parts_of-requires c =
    let shaped = c.judge_shaped.ensures.yes_is c.if-not-judge_shaped.false in
    shaped.0

pub put_judgement-requires : goal.put_judgement-requires
put_judgement-requires c =
    let shaped = c.judge_shaped.ensures.yes_is c.if-not-judge_shaped.false in
    (shaped.1, shaped.2, shaped.3)

pub bounds-at-0 : goal.bounds-at-0
bounds-at-0 c =
    let shaped = c.judge_shaped.ensures.yes_is c.if-not-judge_shaped.false in
    shaped.4

pub refused_at-requires : goal.refused_at-requires
refused_at-requires c =
    let shaped = c.judge_shaped.ensures.yes_is c.if-not-judge_shaped.false in
    shaped.4

pub returns-in-Ok : goal.returns-in-Ok
returns-in-Ok c =
    let shaped = c.judge_shaped.ensures.yes_is c.if-not-judge_shaped.false in
    let a = c.args in
    judge-told a.text.now _ (record { reply = c.judge_parts-judgement.result; room = _ }) a.plate.now shaped
    (rw c.parts_of.ensures at c.judge_parts-judgement.ensures)
    c.in-Ok.is
    c.put_judgement.ensures

pub returns-in-Err : goal.returns-in-Err
returns-in-Err c =
    let shaped = c.judge_shaped.ensures.yes_is c.if-not-judge_shaped.false in
    let a = c.args in
    judge-refused a.text.now _ (record { reply = c.judge_parts-judgement.result; room = _ }) a.plate.now shaped
    (rw c.parts_of.ensures at c.judge_parts-judgement.ensures)
    c.in-Err.is
    c.refused_at.ensures
