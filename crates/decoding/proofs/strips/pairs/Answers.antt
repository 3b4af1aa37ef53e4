-- `strips::pairs` meets its contract. The first i metrics are gathered.
use native.Mathlib.Omega.{arith}
use Rattle.decoding.proofs.Gathering.{four-fit, fours-all, fours-more, fours-none}
use Rattle.decoding.specs.Strips.{paired}
use Rattle.decoding.proofs.strips.pairs.Goals as goal

pub loop-i-init : goal.loop-i-init
loop-i-init c = fours-none c.args.metrics.now (paired c.args.at) c.args.into.now c.requires

pub overflow_add-f : goal.overflow_add-f
overflow_add-f c =
    omega (arith, c.requires.there c.loop-i.i c.loop-i-test.true, c.loop-i.invariant.aligned, c.well_formed.0.1)

pub overflow_add-f-in-loop-i : goal.overflow_add-f-in-loop-i
overflow_add-f-in-loop-i c =
    omega (arith, c.requires.there c.loop-i.i c.loop-i-test.true, c.loop-i.invariant.aligned, c.well_formed.0.1)

pub overflow_add-f-in-loop-i-2 : goal.overflow_add-f-in-loop-i-2
overflow_add-f-in-loop-i-2 c =
    omega (arith, c.requires.there c.loop-i.i c.loop-i-test.true, c.loop-i.invariant.aligned, c.well_formed.0.1)

pub move_four-requires : goal.move_four-requires
move_four-requires c =
    four-fit c.args.metrics.now (paired c.args.at) c.args.into.now c.requires c.loop-i.i c.loop-i.into c.loop-i.invariant c.loop-i-test.true _ _ _ _ (omega (arith, c.loop-i.invariant.aligned)) (omega (arith, c.loop-i.invariant.aligned)) (omega (arith, c.loop-i.invariant.aligned)) (omega (arith, c.loop-i.invariant.aligned))

pub loop-i-smaller : goal.loop-i-smaller
loop-i-smaller c = omega (arith, c.loop-i-test.true)

pub loop-i-preserved : goal.loop-i-preserved
loop-i-preserved c =
    fours-more c.args.metrics.now (paired c.args.at) c.args.into.now c.requires c.loop-i.i c.loop-i.into c.loop-i.invariant c.loop-i-test.true _ _ _ _ (omega (arith, c.loop-i.invariant.aligned)) (omega (arith, c.loop-i.invariant.aligned)) (omega (arith, c.loop-i.invariant.aligned)) (omega (arith, c.loop-i.invariant.aligned)) _ c.move_four.ensures

pub returns : goal.returns
returns c =
    fours-all c.args.metrics.now (paired c.args.at) c.args.into.now c.requires _ _ c.loop-i.invariant c.loop-i-test.false
