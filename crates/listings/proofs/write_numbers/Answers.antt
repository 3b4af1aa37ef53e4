-- `listings::write_numbers` meets its contract.
use Rattle.listings.proofs.Conditions.{built-written}
use Rattle.listings.proofs.Prepending.{◌▹◌, built-ends}
use Rattle.listings.proofs.write_numbers.Goals as goal

pub write_line-requires : goal.write_line-requires
write_line-requires c =
    built-ends c.requires (c.prepend_entries-first.ensures ▹ c.prepend_name-at.ensures)

pub returns : goal.returns
returns c =
    built-written c.requires (c.prepend_entries-first.ensures ▹ c.prepend_name-at.ensures) c.write_line.ensures
