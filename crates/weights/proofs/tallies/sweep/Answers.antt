-- `weights::tallies::sweep` meets its contract. The loop's invariant: the numbers of depth t stand in the room.
use mathlib.Core.Path.{subst, sym, ◌∙◌, ◌≡◌}
use native.Mathlib.Omega.{arith}
use Prim.Native.Nat.{◌-◌, suc, ℕ}
use Rattle.weights.specs.Tallying.{Swept}
use Rattle.weights.proofs.SweepWays.{from-within, start-there, step_fits, swept-on, swept-start}
use Rattle.weights.proofs.tallies.sweep.Goals as goal

pub bounds-working-0 : goal.bounds-working-0
bounds-working-0 c = start-there c.args.rows.now c.args.n c.args.half c.args.working.now c.requires _ c.clear.ensures

pub loop-t-init : goal.loop-t-init
loop-t-init c =
    (omega arith, swept-start c.args.rows.now c.args.n c.args.half c.args.working.now c.requires _ c.clear.ensures)

pub overflow_sub-to : goal.overflow_sub-to
overflow_sub-to c =
    let l = c.loop-t in
    let d : l.t ≡ suc (l.t - 1) = omega (arith, c.loop-t-test.true) in
    let swept = subst (λ (t : ℕ). Swept c.args.rows.now c.args.n c.args.half t l.working l.from) d l.invariant.1 in
    from-within _ _ _ _ c.requires (l.t - 1) (omega (arith, c.loop-t-test.true, l.invariant.0)) _ _ swept _ c.section_of-section.ensures

pub step-requires : goal.step-requires
step-requires c =
    let l = c.loop-t in
    let d : l.t ≡ suc (l.t - 1) = omega (arith, c.loop-t-test.true) in
    let swept = subst (λ (t : ℕ). Swept c.args.rows.now c.args.n c.args.half t l.working l.from) d l.invariant.1 in
    step_fits _ _ _ _ c.requires (l.t - 1) (omega (arith, c.loop-t-test.true, l.invariant.0)) _ _ swept _ c.section_of-section.ensures

pub loop-t-preserved : goal.loop-t-preserved
loop-t-preserved c =
    let l = c.loop-t in
    let k = c.loop-t-test.true in
    let d : l.t ≡ suc (l.t - 1) = omega (arith, k) in
    let swept = subst (λ (t : ℕ). Swept c.args.rows.now c.args.n c.args.half t l.working l.from) d l.invariant.1 in
    let on = swept-on _ _ _ _ c.requires (l.t - 1) (omega (arith, k, l.invariant.0)) _ _ swept _ c.section_of-section.ensures _ c.step.ensures in
    (omega (arith, l.invariant.0), on)

pub shape_of-working : goal.shape_of-working
shape_of-working c = c.loop-t.invariant.1.size ∙ sym c.requires.size

pub returns : goal.returns
returns c =
    let e : c.loop-t.t ≡ 0 = omega (arith, c.loop-t-test.false) in
    subst (λ (t : ℕ). Swept c.args.rows.now c.args.n c.args.half t c.loop-t.working c.loop-t.from) e c.loop-t.invariant.1
