-- `exports::receiving::yendrufal_firmness` meets its promise.
use Rattle.exports.proofs.CallsMade.{misshaped}
use Rattle.exports.proofs.FirmnessCrossed.{firmness-found, firmness-refused, reading-fits}
use Rattle.exports.specs.Judging.{FirmnessCells, Judging, firmness_cells}
use Rattle.exports.specs.Flat.{plate_of}
use Rattle.exports.proofs.receiving.yendrufal_firmness.Goals as goal

pub returns-then-not-firmness_shaped : goal.returns-then-not-firmness_shaped
returns-then-not-firmness_shaped c = misshaped (c.firmness_shaped.ensures.no_is c.if-not-firmness_shaped.true)

pub parts_of-requires : goal.parts_of-requires
parts_of-requires c =
    let shaped = c.firmness_shaped.ensures.yes_is c.if-not-firmness_shaped.false in
    shaped.0

pub put_reading-requires : goal.put_reading-requires
put_reading-requires c =
    let shaped = c.firmness_shaped.ensures.yes_is c.if-not-firmness_shaped.false in
    let a = c.args in
    let lent : FirmnessCells = firmness_cells a.metrics.now a.decisions.now a.fixed.now a.value.now a.at.now in
    let reply : Judging = record { reply = c.firmness_parts.result; metrics = c.firmness_parts.new.metrics; decisions = c.firmness_parts.new.decisions } in (
      shaped.1,
      shaped.2,
      reading-fits (plate_of a.plate.now) a.samples.now a.position lent reply (rw c.parts_of.ensures at c.firmness_parts.ensures) _
          c.in-Ok.is,
    )

pub bounds-at-0 : goal.bounds-at-0
bounds-at-0 c =
    let shaped = c.firmness_shaped.ensures.yes_is c.if-not-firmness_shaped.false in
    shaped.3

pub refused_at-requires : goal.refused_at-requires
refused_at-requires c =
    let shaped = c.firmness_shaped.ensures.yes_is c.if-not-firmness_shaped.false in
    shaped.3

pub returns-in-Ok : goal.returns-in-Ok
returns-in-Ok c =
    let shaped = c.firmness_shaped.ensures.yes_is c.if-not-firmness_shaped.false in
    let a = c.args in
    firmness-found a.samples.now a.position _ (record { reply = c.firmness_parts.result; metrics = _; decisions = _ }) a.plate.now
    shaped
    (rw c.parts_of.ensures at c.firmness_parts.ensures) c.in-Ok.is
    c.put_reading.ensures

pub returns-in-Err : goal.returns-in-Err
returns-in-Err c =
    let shaped = c.firmness_shaped.ensures.yes_is c.if-not-firmness_shaped.false in
    let a = c.args in
    firmness-refused a.samples.now a.position _ (record { reply = c.firmness_parts.result; metrics = _; decisions = _ }) a.plate.now
    shaped
    (rw c.parts_of.ensures at c.firmness_parts.ensures) c.in-Err.is
    c.refused_at.ensures
