-- `listings::pieces::prepend_positions` meets its contract: the positions from i on stand in the array.
use mathlib.Core.Path.{◌≡◌}
use native.Mathlib.Omega.{arith}
use Rattle.listings.proofs.Backwards.{positions-start, positions-on}
use Rattle.listings.proofs.Prepending.{◌▹◌}
use Rattle.listings.proofs.pieces.prepend_positions.Goals as goal

pub loop-i-init : goal.loop-i-init
loop-i-init c = (omega arith, positions-start _ _ c.args.word c.args.n)

pub loop-i-preserved : goal.loop-i-preserved
loop-i-preserved c =
    let l = c.loop-i in
    let a = c.args in
    (omega arith, positions-on a.word a.n _ c.loop-i-test.true l.invariant.0 l.invariant.1 (rw c.character.ensures at c.prepend_byte-at.ensures))

pub returns : goal.returns
returns c =
    let l = c.loop-i in
    let e : l.i ≡ 0 = omega arith in
    (rw e at l.invariant.1) ▹ c.prepend_byte.ensures
