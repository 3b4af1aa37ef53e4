-- `exports::receiving::yendrufal_metric` meets its promise.
use Rattle.exports.proofs.CallsMade.{misshaped}
use Rattle.exports.proofs.PartsCrossed.{metric-found, metric-refused}
use Rattle.exports.proofs.receiving.yendrufal_metric.Goals as goal

pub returns-then-not-part_shaped : goal.returns-then-not-part_shaped
returns-then-not-part_shaped c = misshaped (c.part_shaped.ensures.no_is c.if-not-part_shaped.true)

pub parts_of-requires : goal.parts_of-requires
parts_of-requires c =
    let shaped = c.part_shaped.ensures.yes_is c.if-not-part_shaped.false in
    shaped.0

pub put_measure-requires : goal.put_measure-requires
put_measure-requires c =
    let shaped = c.part_shaped.ensures.yes_is c.if-not-part_shaped.false in
    let shape = shaped in (shaped.1, shaped.2)

pub bounds-at-0 : goal.bounds-at-0
bounds-at-0 c =
    let shaped = c.part_shaped.ensures.yes_is c.if-not-part_shaped.false in
    shaped.3

pub refused_at-requires : goal.refused_at-requires
refused_at-requires c =
    let shaped = c.part_shaped.ensures.yes_is c.if-not-part_shaped.false in
    shaped.3

pub returns-in-Ok : goal.returns-in-Ok
returns-in-Ok c =
    let shaped = c.part_shaped.ensures.yes_is c.if-not-part_shaped.false in
    let a = c.args in
    metric-found a.samples.now _ (record { reply = c.best_metric_parts.result; metrics = _ }) a.plate.now shaped
    (rw c.parts_of.ensures at c.best_metric_parts.ensures) c.in-Ok.is
    c.put_measure.ensures

pub returns-in-Err : goal.returns-in-Err
returns-in-Err c =
    let shaped = c.part_shaped.ensures.yes_is c.if-not-part_shaped.false in
    let a = c.args in
    metric-refused a.samples.now _ (record { reply = c.best_metric_parts.result; metrics = _ }) a.plate.now shaped
    (rw c.parts_of.ensures at c.best_metric_parts.ensures) c.in-Err.is
    c.refused_at.ensures
