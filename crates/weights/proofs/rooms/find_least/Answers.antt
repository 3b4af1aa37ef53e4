-- `weights::rooms::find_least` meets its contract. The loop's invariant: no count before w is above zero.
use mathlib.Core.Path.{subst, ◌≡◌}
use native.Mathlib.Omega.{arith}
use Rattle.weights.proofs.RoomSteps.{NoneBefore, none_more}
use Rattle.weights.proofs.rooms.find_least.Goals as goal

pub loop-w-init : goal.loop-w-init
loop-w-init c = (omega arith, omega arith, λ v a h. absurd (omega arith))

pub returns-then-counts-w-gt0 : goal.returns-then-counts-w-gt0
returns-then-counts-w-gt0 c =
    let l = c.loop-w in
    (record { above = omega (arith, l.invariant.0); within = l.invariant.1; some = λ h. c.if-counts-w-gt0.true; none = l.invariant.2 }, c.loop-w-test.true)

pub loop-w-preserved : goal.loop-w-preserved
loop-w-preserved c =
    let l = c.loop-w in
    (omega arith, omega (arith, c.loop-w-test.true), none_more c.args.counts.now l.w l.invariant.2 (omega (arith, c.if-counts-w-gt0.false)))

pub returns : goal.returns
returns c =
    let l = c.loop-w in
    let e : l.w ≡ 65 = omega (arith, c.loop-w-test.false, l.invariant.1) in
    record { above = omega arith; within = omega arith; some = λ h. absurd (omega arith); none = subst (NoneBefore c.args.counts.now) e l.invariant.2 }
