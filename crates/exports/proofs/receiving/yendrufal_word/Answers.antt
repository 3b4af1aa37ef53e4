-- `exports::receiving::yendrufal_word` meets its promise.
use Rattle.exports.proofs.CallsMade.{misshaped}
use Rattle.exports.proofs.PartsCrossed.{word-found, word-refused}
use Rattle.exports.proofs.receiving.yendrufal_word.Goals as goal

pub returns-then-not-part_shaped : goal.returns-then-not-part_shaped
returns-then-not-part_shaped c = misshaped (c.part_shaped.ensures.no_is c.if-not-part_shaped.true)

pub parts_of-requires : goal.parts_of-requires
parts_of-requires c =
    let shaped = c.part_shaped.ensures.yes_is c.if-not-part_shaped.false in
    shaped.0

pub put_selection-requires : goal.put_selection-requires
put_selection-requires c =
    let shaped = c.part_shaped.ensures.yes_is c.if-not-part_shaped.false in
    let shape = shaped in (shaped.1, shaped.2)

pub bounds-at-0 : goal.bounds-at-0
bounds-at-0 c =
    let shaped = c.part_shaped.ensures.yes_is c.if-not-part_shaped.false in
    shaped.3

pub refused_at-requires : goal.refused_at-requires
refused_at-requires c =
    let shaped = c.part_shaped.ensures.yes_is c.if-not-part_shaped.false in
    shaped.3

pub returns-in-Ok : goal.returns-in-Ok
returns-in-Ok c =
    let shaped = c.part_shaped.ensures.yes_is c.if-not-part_shaped.false in
    let a = c.args in
    word-found a.samples.now _ (record { reply = c.best_word_parts.result; metrics = _; decisions = _ }) a.plate.now shaped
    (rw c.parts_of.ensures at c.best_word_parts.ensures) c.in-Ok.is
    c.put_selection.ensures

pub returns-in-Err : goal.returns-in-Err
returns-in-Err c =
    let shaped = c.part_shaped.ensures.yes_is c.if-not-part_shaped.false in
    let a = c.args in
    word-refused a.samples.now _ (record { reply = c.best_word_parts.result; metrics = _; decisions = _ }) a.plate.now shaped
    (rw c.parts_of.ensures at c.best_word_parts.ensures) c.in-Err.is
    c.refused_at.ensures
