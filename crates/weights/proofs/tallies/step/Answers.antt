-- `weights::tallies::step` meets its contract. The loop's invariant: the first p numbers are written.
use lib.Pow.{pow_mono}
use mathlib.Core.Path.{ap}
use native.Mathlib.Omega.{arith}
use Prim.Native.Nat.{◌*◌, ℕ}
use Rattle.weights.proofs.StepFilling.{filling-all, filling-more, filling-none, place-there, state-fits}
use Rattle.weights.proofs.tallies.step.Goals as goal

pub overflow_mul-size : goal.overflow_mul-size
overflow_mul-size c = record { fits = omega (arith, (c.weight_of-size.ensures.below (omega (arith, c.requires.section.narrow))), pow_mono c.requires.section.narrow) }

pub loop-p-init : goal.loop-p-init
loop-p-init c =
    (ap (λ (x : ℕ). x * 65) (c.weight_of-size.ensures.below (omega (arith, c.requires.section.narrow))), c.requires, filling-none c.args.working.now c.args.from c.args.to c.args.section c.requires)

pub by_state-ways-requires : goal.by_state-ways-requires
by_state-ways-requires c =
    let l = c.loop-p in
    state-fits _ _ _ _ l.invariant.1 _ _ l.invariant.2 (omega (arith, l.invariant.0, c.loop-p-test.true))

pub overflow_add-at : goal.overflow_add-at
overflow_add-at c =
    let l = c.loop-p in
    omega (arith, l.invariant.0, l.invariant.1.new_room, l.invariant.1.small, c.loop-p-test.true)

pub offset_bounds-working-at : goal.offset_bounds-working-at
offset_bounds-working-at c =
    let l = c.loop-p in
    record { fits = omega (arith, l.invariant.0, l.invariant.1.new_room, l.invariant.1.small, c.loop-p-test.true) }

pub bounds-working-at : goal.bounds-working-at
bounds-working-at c =
    let l = c.loop-p in
    place-there _ _ _ _ l.invariant.1 _ _ l.invariant.2 (omega (arith, l.invariant.0, c.loop-p-test.true))

pub loop-p-preserved : goal.loop-p-preserved
loop-p-preserved c =
    let l = c.loop-p in (
      l.invariant.0,
      l.invariant.1,
      filling-more _ _ _ _ l.invariant.1 _ _ l.invariant.2 (omega (arith, l.invariant.0, c.loop-p-test.true)) _ c.by_state-ways.ensures,
    )

pub shape_of-working : goal.shape_of-working
shape_of-working c = c.loop-p.invariant.2.size

pub returns : goal.returns
returns c =
    let l = c.loop-p in
    filling-all _ _ _ _ l.invariant.1 _ _ l.invariant.2 (omega (arith, l.invariant.0, c.loop-p-test.false))
