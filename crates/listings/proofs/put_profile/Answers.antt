-- `listings::put_profile` meets its contract.
use Rattle.listings.specs.Lines.{profile_line}
use Rattle.listings.proofs.put_profile.Goals as goal

pub write_numbers-requires : goal.write_numbers-requires
unfolding profile_line
write_numbers-requires c = c.requires

pub returns : goal.returns
unfolding profile_line
returns c = c.write_numbers.ensures
