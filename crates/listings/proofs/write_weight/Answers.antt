-- `listings::write_weight` meets its contract.
use Rattle.listings.specs.Lines.{weight_line}
use Rattle.listings.proofs.Fits256.{weight-fits-256}
use Rattle.listings.proofs.write_weight.Goals as goal

pub write_numbers-requires : goal.write_numbers-requires
unfolding weight_line
write_numbers-requires c = weight-fits-256 c.args.weight c.args.count

pub returns : goal.returns
unfolding weight_line
returns c = c.write_numbers.ensures
