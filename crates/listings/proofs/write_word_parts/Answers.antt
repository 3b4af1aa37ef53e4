-- `listings::write_word_parts` meets its contract.
use mir.Facts.{to_z-of_z}
use Rattle.listings.proofs.OfPlate.{tested, tested-short, untested}
use Rattle.listings.proofs.write_word_parts.Goals as goal

pub put_word-requires : goal.put_word-requires
put_word-requires c = tested-short c.parts_prepared.ensures c.if-parts_prepared.true

pub returns-then-parts_prepared : goal.returns-then-parts_prepared
returns-then-parts_prepared c =
    tested c.parts_prepared.ensures c.if-parts_prepared.true
    (rw (to_z-of_z c.ranges.metric) at c.put_word.ensures)

pub returns : goal.returns
returns c = search untested
