-- `listings::pieces::prepend_number` meets its contract: the digits put so far stand to the right of those of `rest`.
use native.Mathlib.Omega.{arith}
use Rattle.listings.proofs.Digits.{digits-start, digits-on, digits-end}
use Rattle.listings.proofs.pieces.prepend_number.Goals as goal

pub loop-rest-init : goal.loop-rest-init
loop-rest-init c = digits-start _ _ _ c.ranges.value.fits

pub loop-rest-smaller : goal.loop-rest-smaller
loop-rest-smaller c = omega arith

pub loop-rest-preserved : goal.loop-rest-preserved
loop-rest-preserved c = digits-on c.loop-rest.invariant c.loop-rest-test.true c.prepend_byte-at.ensures

pub returns : goal.returns
returns c = digits-end c.loop-rest.invariant c.loop-rest-test.false c.prepend_byte.ensures
