-- `exports::yendrufal_write_word` meets its promise.
use borrow.Author.Rules.{rules}
use mir.Facts.{to_z-of_z}
use mathlib.Core.Path.{subst}
use native.Mathlib.Omega.{arith}
use Rattle.plates.specs.declared.Plate.{Plate}
use Rattle.exports.proofs.CallsMade.{misshaped, wrote}
use Rattle.exports.specs.Flat.{plate_of}
use Rattle.listings.specs.Writing.{WritesWord}
use Rattle.exports.proofs.yendrufal_write_word.Goals as goal

pub returns-then-plate-lt132 : goal.returns-then-plate-lt132
returns-then-plate-lt132 c = misshaped (λ s. omega (arith, s.0))

pub returns-then-written-lt1 : goal.returns-then-written-lt1
returns-then-written-lt1 c = misshaped (λ s. omega (arith, s.1))

pub returns : goal.returns
returns c =
    let a = c.args in
    wrote (WritesWord (plate_of a.plate.now) a.word a.metric a.additions a.comparisons) _ _ _ _ _ c.write_word_parts.result (search rules)
    (subst (λ (p : Plate). WritesWord p a.word a.metric a.additions a.comparisons a.line.now c.write_word_parts.result c.write_word_parts.new.room) c.parts_of.ensures
    (rw (to_z-of_z c.ranges.metric) at c.write_word_parts.ensures))
    c.written_length.ensures
