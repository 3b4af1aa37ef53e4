-- `strips::runs` meets its contract. The first i metrics are gathered.
use mathlib.Core.Path.{ap}
use native.Mathlib.Omega.{arith}
use Prim.Native.Nat.{◌+◌, ℕ}
use Rattle.decoding.proofs.Gathering.{four-fit, fours-all, fours-more, fours-none, run-place}
use Rattle.decoding.specs.Strips.{landing}
use Rattle.decoding.proofs.strips.runs.Goals as goal

pub loop-i-init : goal.loop-i-init
loop-i-init c =
    fours-none c.args.metrics.now (landing c.args.from c.args.place c.args.x) c.args.into.now c.requires.1

pub overflow_add-f : goal.overflow_add-f
overflow_add-f c = omega (arith, c.target.ensures, c.requires.1.there c.loop-i.i c.loop-i-test.true, c.well_formed.0.1)

pub overflow_add-f-in-loop-i : goal.overflow_add-f-in-loop-i
overflow_add-f-in-loop-i c = omega (arith, c.target.ensures, c.requires.1.there c.loop-i.i c.loop-i-test.true, c.well_formed.0.1)

pub overflow_add-f-in-loop-i-2 : goal.overflow_add-f-in-loop-i-2
overflow_add-f-in-loop-i-2 c = omega (arith, c.target.ensures, c.requires.1.there c.loop-i.i c.loop-i-test.true, c.well_formed.0.1)

pub overflow_add-f-in-loop-i-3 : goal.overflow_add-f-in-loop-i-3
overflow_add-f-in-loop-i-3 c = omega (arith, c.target.ensures, c.requires.1.there c.loop-i.i c.loop-i-test.true, c.well_formed.0.1)

pub move_four-requires : goal.move_four-requires
move_four-requires c =
    four-fit c.args.metrics.now (landing c.args.from c.args.place c.args.x) c.args.into.now c.requires.1 c.loop-i.i c.loop-i.into c.loop-i.invariant c.loop-i-test.true _ _ _ _
    (ap (λ (z : ℕ). c.args.from + z) c.target.ensures) (run-place c.args.from c.args.place c.args.x c.loop-i.i c.target.result c.requires.0 c.loop-i.invariant.aligned c.target.ensures 1 (omega arith)) (run-place c.args.from c.args.place c.args.x c.loop-i.i c.target.result c.requires.0 c.loop-i.invariant.aligned c.target.ensures 2 (omega arith)) (run-place c.args.from c.args.place c.args.x c.loop-i.i c.target.result c.requires.0 c.loop-i.invariant.aligned c.target.ensures 3 (omega arith))

pub loop-i-smaller : goal.loop-i-smaller
loop-i-smaller c = omega (arith, c.loop-i-test.true)

pub loop-i-preserved : goal.loop-i-preserved
loop-i-preserved c =
    fours-more c.args.metrics.now (landing c.args.from c.args.place c.args.x) c.args.into.now c.requires.1 c.loop-i.i c.loop-i.into c.loop-i.invariant c.loop-i-test.true _ _ _ _
    (ap (λ (z : ℕ). c.args.from + z) c.target.ensures) (run-place c.args.from c.args.place c.args.x c.loop-i.i c.target.result c.requires.0 c.loop-i.invariant.aligned c.target.ensures 1 (omega arith)) (run-place c.args.from c.args.place c.args.x c.loop-i.i c.target.result c.requires.0 c.loop-i.invariant.aligned c.target.ensures 2 (omega arith)) (run-place c.args.from c.args.place c.args.x c.loop-i.i c.target.result c.requires.0 c.loop-i.invariant.aligned c.target.ensures 3 (omega arith)) _ c.move_four.ensures

pub returns : goal.returns
returns c =
    fours-all c.args.metrics.now (landing c.args.from c.args.place c.args.x) c.args.into.now c.requires.1 _ _ c.loop-i.invariant c.loop-i-test.false
