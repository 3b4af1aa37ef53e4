-- `exports::reading::put_position` meets its contract.
use Rattle.exports.proofs.FirmnessCrossed.{reading-fits}
use Rattle.exports.proofs.PositionsCrossed.{position-put, position-refused}
use Rattle.exports.specs.Flat.{plate_of}
use Rattle.exports.specs.Judging.{FirmnessCells, Judging, firmness_cells}
use Rattle.std.proofs.lemmas.Result.{err_from_is_err_and}
use Rattle.exports.proofs.reading.put_position.Goals as goal

pub put_reading-requires : goal.put_reading-requires
put_reading-requires c =
    let a = c.args in
    let lent : FirmnessCells = firmness_cells a.metrics.now a.decisions.now a.fixed.now a.values.now a.fixed.now in
    let new = c.firmness_parts.new in
    let reply : Judging = record { reply = c.firmness_parts.result; metrics = new.metrics; decisions = new.decisions } in (
      c.requires.1,
      c.requires.2,
      reading-fits (plate_of a.plate.now) a.samples.now a.position lent reply (rw c.parts_of.ensures at c.firmness_parts.ensures) _ c.in_ok-flag.was,
    )

pub returns-in_err-flag : goal.returns-in_err-flag
returns-in_err-flag c =
    let a = c.args in
    let p = err_from_is_err_and c.from_residual.result c.from_residual.ensures.1 in
    rw (p.1, p.2)
    (position-refused (plate_of a.plate.now) a.samples.now a.position a.metrics.now _ a.decisions.now _ a.fixed.now a.values.now
    c.firmness_parts.result (rw c.parts_of.ensures at c.firmness_parts.ensures) c.in_err-flag.was)

pub returns : goal.returns
returns c =
    let a = c.args in
    position-put (plate_of a.plate.now) a.samples.now a.position _ _ c.firmness_parts.result (rw c.parts_of.ensures at c.firmness_parts.ensures)
    c.in_ok-flag.was c.put_reading.ensures
