-- `listings::write_least` meets its contract.
use Rattle.listings.specs.Lines.{least_line}
use Rattle.listings.proofs.Fits256.{least-fits-256}
use Rattle.listings.proofs.write_least.Goals as goal

pub write_numbers-requires : goal.write_numbers-requires
unfolding least_line
write_numbers-requires c = least-fits-256 c.args.weight

pub returns : goal.returns
unfolding least_line
returns c = c.write_numbers.ensures
