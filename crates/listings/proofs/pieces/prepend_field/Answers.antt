-- `listings::pieces::prepend_field` meets its contract.
use Rattle.listings.proofs.Prepending.{◌▹◌}
use Rattle.listings.proofs.pieces.prepend_field.Goals as goal

pub returns : goal.returns
returns c = c.prepend_number-at.ensures ▹ c.prepend_byte.ensures
