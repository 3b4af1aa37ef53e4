-- `exports::receiving::yendrufal_decode` meets its promise.
use Rattle.exports.proofs.CallsMade.{misshaped}
use Rattle.exports.proofs.DecodeCrossed.{decode-found, decode-refused}
use Rattle.exports.proofs.receiving.yendrufal_decode.Goals as goal

pub returns-then-not-decode_shaped : goal.returns-then-not-decode_shaped
returns-then-not-decode_shaped c = misshaped (c.decode_shaped.ensures.no_is c.if-not-decode_shaped.true)

pub parts_of-requires : goal.parts_of-requires
parts_of-requires c =
    let shaped = c.decode_shaped.ensures.yes_is c.if-not-decode_shaped.false in
    shaped.0

pub put_answer-requires : goal.put_answer-requires
put_answer-requires c =
    let shaped = c.decode_shaped.ensures.yes_is c.if-not-decode_shaped.false in
    (shaped.1, shaped.2, shaped.3)

pub bounds-at-0 : goal.bounds-at-0
bounds-at-0 c =
    let shaped = c.decode_shaped.ensures.yes_is c.if-not-decode_shaped.false in
    shaped.4

pub refused_at-requires : goal.refused_at-requires
refused_at-requires c =
    let shaped = c.decode_shaped.ensures.yes_is c.if-not-decode_shaped.false in
    shaped.4

pub returns-in-Ok : goal.returns-in-Ok
returns-in-Ok c =
    let shaped = c.decode_shaped.ensures.yes_is c.if-not-decode_shaped.false in
    let a = c.args in
    decode-found a.samples.now _ (record { reply = c.decode_parts.result; metrics = _; decisions = _ }) a.plate.now shaped
    (rw c.parts_of.ensures at c.decode_parts.ensures) c.in-Ok.is
    c.put_answer.ensures

pub returns-in-Err : goal.returns-in-Err
returns-in-Err c =
    let shaped = c.decode_shaped.ensures.yes_is c.if-not-decode_shaped.false in
    let a = c.args in
    decode-refused a.samples.now _ (record { reply = c.decode_parts.result; metrics = _; decisions = _ }) a.plate.now shaped
    (rw c.parts_of.ensures at c.decode_parts.ensures) c.in-Err.is
    c.refused_at.ensures
