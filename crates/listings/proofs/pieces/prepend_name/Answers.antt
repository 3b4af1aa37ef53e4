-- `listings::pieces::prepend_name` meets its contract.
use Rattle.listings.proofs.Prepending.{prepend-copied}
use Rattle.listings.proofs.pieces.prepend_name.Goals as goal

pub returns : goal.returns
returns c = prepend-copied c.args.line.now c.args.name.now _ c.args.end c.told-line c.if-end-gt256.false c.if-end-name.false c.copy_from_slice.ensures.after
