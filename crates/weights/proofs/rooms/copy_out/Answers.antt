-- `weights::rooms::copy_out` meets its contract. The loop's invariant: the counts before w are copied.
use mathlib.Core.Path.{subst, ◌≡◌}
use native.Mathlib.Omega.{arith}
use Prim.Native.Nat.{ℕ}
use Rattle.weights.specs.Rooms.{Copied}
use Rattle.weights.proofs.RoomSteps.{copied_more, copied_none}
use Rattle.weights.proofs.rooms.copy_out.Goals as goal

pub loop-w-init : goal.loop-w-init
loop-w-init c = (omega arith, copied_none c.args.working.now c.args.from c.args.counts.now)

pub offset_bounds-counts-w : goal.offset_bounds-counts-w
offset_bounds-counts-w c = omega (arith, c.loop-w-test.true, c.requires.0, c.loop-w.invariant.1.size)

pub bounds-counts-w : goal.bounds-counts-w
bounds-counts-w c = omega (arith, c.loop-w-test.true, c.requires.0, c.loop-w.invariant.1.size)

pub loop-w-preserved : goal.loop-w-preserved
loop-w-preserved c =
    let more = copied_more c.args.working.now c.args.from c.args.counts.now (omega (arith, c.loop-w-test.true, c.requires.0)) c.loop-w.invariant.1 in
    (omega (arith, c.loop-w-test.true), more)

pub shape_of-counts : goal.shape_of-counts
shape_of-counts c = c.loop-w.invariant.1.size

pub returns : goal.returns
returns c =
    let e : c.loop-w.w ≡ 65 = omega (arith, c.loop-w-test.false, c.loop-w.invariant.0) in
    subst (λ (m : ℕ). Copied c.args.working.now c.args.from c.args.counts.now m c.loop-w.counts) e c.loop-w.invariant.1
