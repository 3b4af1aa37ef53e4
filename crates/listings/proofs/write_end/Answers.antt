-- `listings::write_end` meets its contract.
use Rattle.listings.specs.Lines.{line_of_end}
use Rattle.listings.proofs.Fits256.{end-fits-256}
use Rattle.listings.proofs.write_end.Goals as goal

pub write_numbers-requires : goal.write_numbers-requires
unfolding line_of_end
write_numbers-requires c = end-fits-256 c.args.blocks

pub returns : goal.returns
unfolding line_of_end
returns c = c.write_numbers.ensures
