-- `listings::write_word` meets its contract: it is the call over the plate's parts.
use mathlib.Core.Path.{subst}
use mir.Facts.{to_z-of_z}
use Rattle.plates.specs.declared.Plate.{Plate}
use Rattle.listings.specs.Writing.{WritesWord}
use Rattle.listings.proofs.write_word.Goals as goal

pub returns : goal.returns
returns c =
    let a = c.args in
    let w = c.write_word_parts in
    subst (λ (p : Plate). WritesWord p a.word a.metric a.additions a.comparisons a.room.now w.result w.new.room) (c.lend.ensures.whole c.widened-profile.ensures)
    (rw (to_z-of_z c.ranges.metric) at w.ensures)
