-- `listings::put_plate` meets its contract.
use Rattle.listings.specs.Lines.{plate_line}
use Rattle.listings.proofs.Fits256.{plate-fits-256}
use Rattle.listings.proofs.put_plate.Goals as goal

pub write_numbers-requires : goal.write_numbers-requires
unfolding plate_line
write_numbers-requires c = rw c.largest_entry-most.ensures (plate-fits-256 c.args.n c.args.k c.args.entries.now)

pub returns : goal.returns
unfolding plate_line
returns c = rw c.largest_entry-most.ensures at c.write_numbers.ensures
