-- `decoding::sweep::sweep` meets its contract. The loop's invariant: the sweep has come to depth t, which is the measure.
use lib.ListN.{take}
use mathlib.Core.Path.{◌≡◌, ◌∙◌, subst}
use native.Mathlib.Nat.{le_refl}
use native.Mathlib.Omega.{arith}
use Prim.Native.Nat.{ℕ}
use Rattle.decoding.specs.Sweeping.{Swept, gains_of}
use Rattle.decoding.proofs.SweepEnds.{before-section, kept_refl, kept_trans, room-start, rooms-kept, sweep-start}
use Rattle.decoding.proofs.sweep.sweep.Goals as goal

pub slice_set_of-metrics : goal.slice_set_of-metrics
slice_set_of-metrics c =
    room-start c.args.rows.now c.args.sizes (gains_of c.args.sizes c.args.samples.now c.args.forced) c.args.metrics.now c.args.decisions.now c.requires.sizes_fit c.requires.rooms_fit

pub loop-t-init : goal.loop-t-init
loop-t-init c =
    (le_refl _, record { swept = (sweep-start c.args.rows.now c.args.sizes (gains_of c.args.sizes c.args.samples.now c.args.forced) c.args.metrics.now c.args.decisions.now c.requires.sizes_fit c.requires.rooms_fit).swept; kept = kept_refl _ _ _ })

pub sweep_section-at-requires : goal.sweep_section-at-requires
sweep_section-at-requires c =
    let l = c.loop-t in
    before-section c.args.rows.now c.args.sizes (gains_of c.args.sizes c.args.samples.now c.args.forced) _ _ c.requires.sizes_fit
    (rooms-kept (sweep-start c.args.rows.now c.args.sizes (gains_of c.args.sizes c.args.samples.now c.args.forced) c.args.metrics.now c.args.decisions.now c.requires.sizes_fit c.requires.rooms_fit).kept c.requires.rooms_fit) c.args.ends.now c.requires.ends_are l.t c.loop-t-test.true l.invariant.0 _ _ _ l.invariant.1

pub loop-t-preserved : goal.loop-t-preserved
loop-t-preserved c =
    let l = c.loop-t in
    let r = c.sweep_section-at.ensures in
    (omega (arith, l.invariant.0), record { swept = r.swept; kept = kept_trans l.invariant.1.kept r.kept })

pub shape_of-metrics : goal.shape_of-metrics
shape_of-metrics c =
    c.loop-t.invariant.1.kept.metrics_size ∙ (sweep-start c.args.rows.now c.args.sizes (gains_of c.args.sizes c.args.samples.now c.args.forced) c.args.metrics.now c.args.decisions.now c.requires.sizes_fit c.requires.rooms_fit).kept.metrics_size

pub shape_of-decisions : goal.shape_of-decisions
shape_of-decisions c = c.loop-t.invariant.1.kept.decisions_size

pub returns : goal.returns
returns c =
    let l = c.loop-t in
    let z : l.t ≡ 0 = omega (arith, c.loop-t-test.false) in
    record {
      swept = subst (λ (t : ℕ). Swept (take c.args.sizes.k c.args.rows.now) c.args.sizes (gains_of c.args.sizes c.args.samples.now c.args.forced) t l.metrics l.decisions l.at) z l.invariant.1.swept;
      kept = kept_trans (sweep-start c.args.rows.now c.args.sizes (gains_of c.args.sizes c.args.samples.now c.args.forced) c.args.metrics.now c.args.decisions.now c.requires.sizes_fit c.requires.rooms_fit).kept l.invariant.1.kept;
    }
