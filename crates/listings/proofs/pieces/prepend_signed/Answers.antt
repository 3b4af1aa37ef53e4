-- `listings::pieces::prepend_signed` meets its contract.
use Rattle.std.proofs.Common.{to_z-of_z}
use Rattle.listings.specs.Decimal.{signed_decimal}
use Rattle.listings.proofs.pieces.prepend_signed.Goals as goal

pub returns : goal.returns
unfolding signed_decimal
returns c = rw (c.unsigned_abs.ensures.value, to_z-of_z c.ranges.metric) at c.prepend_with_sign.ensures
