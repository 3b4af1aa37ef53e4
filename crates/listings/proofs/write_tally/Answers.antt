-- `listings::write_tally` meets its contract.
use Rattle.listings.specs.Lines.{tally_line}
use Rattle.listings.proofs.Conditions.{built-written}
use Rattle.listings.proofs.Fits256.{tally-fits-256}
use Rattle.listings.proofs.Prepending.{◌▹◌, built-ends}
use Rattle.listings.proofs.write_tally.Goals as goal

pub write_line-requires : goal.write_line-requires
unfolding tally_line
write_line-requires c =
    let over = c.line_feed-feed.ensures ▹ c.prepend_field-over.ensures ▹ c.prepend_less-sum.ensures in
    let counters = over ▹ c.prepend_field-zeros.ensures ▹ c.prepend_field-opposing.ensures ▹ c.prepend_field-missing.ensures in
    let lines = counters ▹ c.prepend_field-turn.ensures ▹ c.prepend_field-repeated.ensures ▹ c.prepend_field-refused.ensures in
    built-ends (tally-fits-256 c.args.tally) (lines ▹ c.prepend_field-decoded.ensures ▹ c.prepend_name-at.ensures)

pub returns : goal.returns
unfolding tally_line
returns c =
    let over = c.line_feed-feed.ensures ▹ c.prepend_field-over.ensures ▹ c.prepend_less-sum.ensures in
    let counters = over ▹ c.prepend_field-zeros.ensures ▹ c.prepend_field-opposing.ensures ▹ c.prepend_field-missing.ensures in
    let lines = counters ▹ c.prepend_field-turn.ensures ▹ c.prepend_field-repeated.ensures ▹ c.prepend_field-refused.ensures in
    built-written (tally-fits-256 c.args.tally) (lines ▹ c.prepend_field-decoded.ensures ▹ c.prepend_name-at.ensures) c.write_line.ensures
