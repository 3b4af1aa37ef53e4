-- `listings::write_no_least` meets its contract.
use Rattle.listings.specs.Lines.{no_least_line}
use Rattle.listings.proofs.Fits256.{no-least-fits-256}
use Rattle.listings.proofs.write_no_least.Goals as goal

pub write_numbers-requires : goal.write_numbers-requires
unfolding no_least_line
write_numbers-requires c = no-least-fits-256

pub returns : goal.returns
unfolding no_least_line
returns c = c.write_numbers.ensures
