-- `pieces::prepend_with_sign` meets its contract.
use Rattle.listings.proofs.Prepending.{◌▹◌}
use Rattle.listings.proofs.pieces.prepend_with_sign.Goals as goal

pub returns-then-minus : goal.returns-then-minus
returns-then-minus c =
    rw c.if-minus.true (c.prepend_number-digits.ensures ▹ c.prepend_byte-sign.ensures ▹ c.prepend_byte.ensures)

pub returns : goal.returns
returns c = rw c.if-minus.false c.prepend_field.ensures
