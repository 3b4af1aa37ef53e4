-- `decoding::samples::first_over` meets its contract. The loop's invariant: the samples before i are within the limit.
use lib.IntN.{ℤ, nat_abs, pos}
use lib.ListN.{get_or}
use mir.Facts.{to_z-of_z}
use mir.Syntax.{w16}
use mathlib.Core.Path.{subst}
use native.Mathlib.Omega.{arith}
use Prim.Native.Nat.{◌<◌, ◌≤◌}
use Rattle.decoding.specs.Metric.{limit}
use Rattle.decoding.proofs.SampleLimits.{passed}
use Rattle.decoding.proofs.samples.first_over.Goals as goal

pub loop-i-init : goal.loop-i-init
loop-i-init c = (omega arith, λ j h. absurd (omega arith))

pub returns-then-is_over : goal.returns-then-is_over
returns-then-is_over c =
    let l = c.loop-i in
    record {
      there = c.loop-i-test.true;
      before = l.invariant.1;
      here = subst (λ (y : ℤ). limit < nat_abs y) {y = get_or c.args.samples.now c.loop-i.i (pos 0)} (to_z-of_z {w = w16} (record { sfits = c.is_over-arg-1.given })) (c.is_over.ensures.yes_is c.if-is_over.true);
    }

pub loop-i-preserved : goal.loop-i-preserved
loop-i-preserved c =
    let l = c.loop-i in (
      omega (arith, c.loop-i-test.true),
      λ j h. passed c.args.samples.now l.i l.invariant.1 (subst (λ (y : ℤ). nat_abs y ≤ limit) {y = get_or c.args.samples.now l.i (pos 0)} (to_z-of_z {w = w16} (record { sfits = c.is_over-arg-1.given })) (c.is_over.ensures.no_is c.if-is_over.false)) j h,
    )

pub returns : goal.returns
returns c = λ j h. c.loop-i.invariant.1 j (omega (arith, c.loop-i-test.false))
