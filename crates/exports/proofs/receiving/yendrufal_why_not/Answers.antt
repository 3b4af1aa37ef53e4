-- `exports::receiving::yendrufal_why_not` meets its promise.
use Rattle.exports.proofs.CallsMade.{misshaped}
use Rattle.exports.proofs.ReasonCrossed.{why-not-explained, why-not-refused}
use Rattle.exports.proofs.receiving.yendrufal_why_not.Goals as goal

pub returns-then-not-part_shaped : goal.returns-then-not-part_shaped
returns-then-not-part_shaped c = misshaped (c.part_shaped.ensures.no_is c.if-not-part_shaped.true)

pub parts_of-requires : goal.parts_of-requires
parts_of-requires c =
    let shaped = c.part_shaped.ensures.yes_is c.if-not-part_shaped.false in
    shaped.0

pub put_reason-requires : goal.put_reason-requires
put_reason-requires c =
    let shaped = c.part_shaped.ensures.yes_is c.if-not-part_shaped.false in
    let shape = shaped in (shaped.1, shaped.2)

pub bounds-at-0 : goal.bounds-at-0
bounds-at-0 c =
    let shaped = c.part_shaped.ensures.yes_is c.if-not-part_shaped.false in
    shaped.3

pub refused_at-requires : goal.refused_at-requires
refused_at-requires c =
    let shaped = c.part_shaped.ensures.yes_is c.if-not-part_shaped.false in
    shaped.3

pub returns-in-Ok : goal.returns-in-Ok
returns-in-Ok c =
    let shaped = c.part_shaped.ensures.yes_is c.if-not-part_shaped.false in
    let a = c.args in
    why-not-explained a.samples.now a.word _ (record { reply = c.why_not_parts.result; metrics = _; decisions = _ }) a.plate.now
    shaped
    (rw c.parts_of.ensures at c.why_not_parts.ensures) c.in-Ok.is
    c.put_reason.ensures

pub returns-in-Err : goal.returns-in-Err
returns-in-Err c =
    let shaped = c.part_shaped.ensures.yes_is c.if-not-part_shaped.false in
    let a = c.args in
    why-not-refused a.samples.now a.word _ (record { reply = c.why_not_parts.result; metrics = _; decisions = _ }) a.plate.now
    shaped
    (rw c.parts_of.ensures at c.why_not_parts.ensures) c.in-Err.is
    c.refused_at.ensures
