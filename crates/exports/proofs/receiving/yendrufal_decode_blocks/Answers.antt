-- `exports::receiving::yendrufal_decode_blocks` meets its promise.
use Rattle.exports.proofs.BatchCrossed.{batch-found, batch-refused}
use Rattle.exports.proofs.CallsMade.{misshaped}
use Rattle.exports.proofs.receiving.yendrufal_decode_blocks.Goals as goal

pub returns-then-not-batch_shaped : goal.returns-then-not-batch_shaped
returns-then-not-batch_shaped c = misshaped (c.batch_shaped.ensures.no_is c.if-not-batch_shaped.true)

pub parts_of-requires : goal.parts_of-requires
parts_of-requires c =
    let shaped = c.batch_shaped.ensures.yes_is c.if-not-batch_shaped.false in
    shaped.0

pub put_counts-requires : goal.put_counts-requires
put_counts-requires c =
    let shaped = c.batch_shaped.ensures.yes_is c.if-not-batch_shaped.false in
    shaped.1

pub bounds-at-0 : goal.bounds-at-0
bounds-at-0 c =
    let shaped = c.batch_shaped.ensures.yes_is c.if-not-batch_shaped.false in
    shaped.2

pub refused_at-requires : goal.refused_at-requires
refused_at-requires c =
    let shaped = c.batch_shaped.ensures.yes_is c.if-not-batch_shaped.false in
    shaped.2

pub returns-in-Ok : goal.returns-in-Ok
returns-in-Ok c =
    let shaped = c.batch_shaped.ensures.yes_is c.if-not-batch_shaped.false in
    let a = c.args in
    batch-found a.samples.now _ (record { reply = c.decode_blocks.result; words = _; scores = _; metrics = _; decisions = _ }) a.plate.now
    shaped (rw c.parts_of.ensures at c.decode_blocks.ensures) c.in-Ok.is
    c.put_counts.ensures

pub returns-in-Err : goal.returns-in-Err
returns-in-Err c =
    let shaped = c.batch_shaped.ensures.yes_is c.if-not-batch_shaped.false in
    let a = c.args in
    batch-refused a.samples.now _ (record { reply = c.decode_blocks.result; words = _; scores = _; metrics = _; decisions = _ }) a.plate.now
    shaped (rw c.parts_of.ensures at c.decode_blocks.ensures) c.in-Err.is
    c.refused_at.ensures
