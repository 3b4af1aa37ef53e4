-- `exports::yendrufal_write_plate` meets its promise.
use borrow.Author.Rules.{rules}
use mathlib.Core.Path.{subst}
use native.Mathlib.Omega.{arith}
use Rattle.plates.specs.declared.Plate.{Plate}
use Rattle.exports.proofs.CallsMade.{misshaped, wrote}
use Rattle.exports.specs.Flat.{plate_of}
use Rattle.listings.specs.Writing.{WritesPlate}
use Rattle.exports.proofs.yendrufal_write_plate.Goals as goal

pub returns-then-plate-lt132 : goal.returns-then-plate-lt132
returns-then-plate-lt132 c = misshaped (λ s. omega (arith, s.0))

pub returns-then-written-lt1 : goal.returns-then-written-lt1
returns-then-written-lt1 c = misshaped (λ s. omega (arith, s.1))

pub returns : goal.returns
returns c =
    let a = c.args in
    wrote (WritesPlate (plate_of a.plate.now)) _ _ _ _ _ c.write_plate_parts.result (search rules)
    (subst (λ (p : Plate). WritesPlate p a.line.now c.write_plate_parts.result c.write_plate_parts.new.room) c.parts_of.ensures
    c.write_plate_parts.ensures)
    c.written_length.ensures
