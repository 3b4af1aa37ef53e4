-- `columns::largest_of` meets its contract: the largest from i on is found.
use native.Mathlib.Omega.{arith}
use lib.Seq.{drop-length}
use mathlib.Core.Path.{◌≡◌, sym, ◌∙◌}
use Rattle.alists.proofs.Places.{largest-on}
use Rattle.alists.proofs.columns.largest_of.Goals as goal

pub loop-i-init : goal.loop-i-init
loop-i-init c = (omega arith, rw (drop-length c.args.weights.now))

pub loop-i-preserved : goal.loop-i-preserved
loop-i-preserved c =
    let l = c.loop-i in
    (omega arith, c.max-most.ensures ∙ rw l.invariant.1 (sym (largest-on _ _ c.loop-i-test.true l.invariant.0)))

pub returns : goal.returns
returns c =
    let e : c.loop-i.i ≡ 0 = omega arith in
    rw e at c.loop-i.invariant.1
