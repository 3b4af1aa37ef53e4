-- `pieces::prepend_less` meets its contract.
use Rattle.listings.proofs.Sign.{less-apart}
use Rattle.listings.proofs.pieces.prepend_less.Goals as goal

pub returns : goal.returns
returns c = rw (c.abs_diff.ensures, less-apart c.args.above c.args.below) at c.prepend_with_sign.ensures
