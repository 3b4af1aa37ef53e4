-- `asking::metric_of` meets its contract. The loop's invariant: the metric of the positions from i on.
use lib.IntN.{nat_abs, pos, ℤ, ◌+ℤ◌}
use lib.ListN.{get_or}
use mathlib.Core.Path.{◌≡◌, ◌∙◌, ap₂, subst, sym}
use mir.Facts.{to_z-of_z}
use mir.Syntax.{w16, w32}
use mir.Val.{to_z}
use native.Mathlib.Omega.{arith}
use Prim.Native.Nat.{ℕ, ◌-◌, ◌≤◌}
use Rattle.decoding.proofs.Integers.{back}
use Rattle.decoding.specs.Metric.{limit}
use Rattle.decoding.specs.Taking.{signed}
use Rattle.asking.proofs.MetricSteps.{metric_from, metric-start, metric-down, metric-end, metric-small}
use Rattle.asking.proofs.metric_of.Goals as goal

pub loop-i-init : goal.loop-i-init
loop-i-init c = (omega arith, metric-start c.args.samples.now c.args.word)

pub with_sample-metric-requires : goal.with_sample-metric-requires
with_sample-metric-requires c =
    let l = c.loop-i in
    record {
      within =
          subst (λ (y : ℤ). nat_abs y ≤ limit) {x = get_or c.args.samples.now (l.i - 1) (pos 0)} (sym (to_z-of_z {w = w16} (record { sfits = c.with_sample-arg-1.given })))
          (c.requires.within (l.i - 1) (omega (arith, c.loop-i-test.true, l.invariant.0)));
      small = metric-small c.args.samples.now c.args.word c.requires l.i (to_z w32 l.metric-bits) l.invariant.1;
    }

pub loop-i-preserved : goal.loop-i-preserved
loop-i-preserved c =
    let l = c.loop-i in
    let y = get_or c.args.samples.now (l.i - 1) (pos 0) in
    let e : c.with_sample-metric.result ≡ metric_from c.args.samples.now c.args.word (l.i - 1) =
    c.with_sample-metric.ensures
    ∙ ap₂ (λ (b : ℕ) (z : ℤ). signed b z +ℤ to_z w32 l.metric-bits) c.bit_at.ensures (to_z-of_z {w = w16} {z = y} (record { sfits = c.with_sample-arg-1.given }))
    ∙ metric-down c.args.samples.now c.args.word l.i (to_z w32 l.metric-bits) c.loop-i-test.true l.invariant.0 l.invariant.1 in
    (omega (arith, l.invariant.0), back c.with_sample-metric.result (omega (arith, metric-small c.args.samples.now c.args.word c.requires (l.i - 1) c.with_sample-metric.result e)) ∙ e)

pub returns : goal.returns
returns c =
    metric-end c.args.samples.now c.args.word c.loop-i.i (to_z w32 c.loop-i.metric-bits) (omega (arith, c.loop-i-test.false)) c.loop-i.invariant.1
