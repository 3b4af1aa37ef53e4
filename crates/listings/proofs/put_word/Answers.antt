-- `listings::put_word` meets its contract.
use mir.Facts.{to_z-of_z}
use Rattle.listings.specs.Lines.{word_line}
use Rattle.listings.proofs.Conditions.{built-written}
use Rattle.listings.proofs.Fits256.{word-fits-256}
use Rattle.listings.proofs.Prepending.{◌▹◌, built-ends}
use Rattle.listings.proofs.put_word.Goals as goal

pub write_line-requires : goal.write_line-requires
unfolding word_line
write_line-requires c =
    let a = c.args in
    let counts = c.line_feed-feed.ensures ▹ c.prepend_field-compared.ensures ▹ c.prepend_field-added.ensures in
    let best = rw (to_z-of_z c.ranges.metric) at c.prepend_signed-best.ensures in
    built-ends (word-fits-256 a.n a.word a.metric a.additions a.comparisons c.requires)
    (counts ▹ best ▹ c.prepend_positions-first.ensures ▹ c.prepend_name-at.ensures)

pub returns : goal.returns
unfolding word_line
returns c =
    let a = c.args in
    let counts = c.line_feed-feed.ensures ▹ c.prepend_field-compared.ensures ▹ c.prepend_field-added.ensures in
    let best = rw (to_z-of_z c.ranges.metric) at c.prepend_signed-best.ensures in
    built-written (word-fits-256 a.n a.word a.metric a.additions a.comparisons c.requires)
    (counts ▹ best ▹ c.prepend_positions-first.ensures ▹ c.prepend_name-at.ensures)
    c.write_line.ensures
