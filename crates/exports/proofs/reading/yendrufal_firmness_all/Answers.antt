-- `exports::reading::yendrufal_firmness_all` meets its promise.
use borrow.Author.Rules.{rules}
use native.Mathlib.Omega.{arith}
use Rattle.exports.proofs.CallsMade.{misshaped}
use Rattle.exports.proofs.PositionsCrossed.{positions-read, positions-refused, put_as, read_first, some-positions}
use Rattle.exports.specs.Flat.{plate_of}
use Rattle.exports.specs.Reading.{firm_rooms}
use Rattle.exports.proofs.reading.yendrufal_firmness_all.Goals as goal

pub returns-then-plate-lt132 : goal.returns-then-plate-lt132
returns-then-plate-lt132 c = misshaped (λ s. omega (arith, s.0))

pub returns-then-fixed-lt64 : goal.returns-then-fixed-lt64
returns-then-fixed-lt64 c = misshaped (λ s. omega (arith, s.1))

pub returns-then-values-lt64 : goal.returns-then-values-lt64
returns-then-values-lt64 c = misshaped (λ s. omega (arith, s.2))

pub returns-then-at-lt1 : goal.returns-then-at-lt1
returns-then-at-lt1 c = misshaped (λ s. omega (arith, s.3))

pub put_others-requires : goal.put_others-requires
put_others-requires c =
    let a = c.args in
    record {
      in_bounds = (c.if-plate-lt132.false, search rules, search rules);
      bound = some-positions (put_as (plate_of a.plate.now) a.samples.now 0 _ _ c.put_position.result c.put_position.ensures c.in-Ok.is);
    }

pub returns-in-Ok : goal.returns-in-Ok
returns-in-Ok c =
    let a = c.args in
    let rooms = firm_rooms a.metrics.now a.decisions.now a.fixed.now a.values.now in
    positions-read a.samples.now _ a.plate.now
    (c.if-plate-lt132.false, c.if-fixed-lt64.false, c.if-values-lt64.false, c.if-at-lt1.false) _
    (c.put_others.ensures rooms
    (read_first
    (put_as (plate_of a.plate.now) a.samples.now 0 rooms _ c.put_position.result c.put_position.ensures c.in-Ok.is)
    (omega (arith, c.if-fixed-lt64.false)) (omega (arith, c.if-values-lt64.false))))

pub returns-in-Err : goal.returns-in-Err
returns-in-Err c =
    let a = c.args in
    let rooms = firm_rooms a.metrics.now a.decisions.now a.fixed.now a.values.now in
    positions-refused a.samples.now _ a.plate.now
    (c.if-plate-lt132.false, c.if-fixed-lt64.false, c.if-values-lt64.false, c.if-at-lt1.false) _
    (put_as (plate_of a.plate.now) a.samples.now 0 rooms _ c.put_position.result c.put_position.ensures c.in-Err.is)
    c.refused_at.ensures
