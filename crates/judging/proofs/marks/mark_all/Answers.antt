-- `marks::mark_all` meets its contract. The loop's invariant: the first i lines are marked.
use native.Mathlib.Omega.{arith}
use lib.ListN.{length-set}
use mathlib.Core.Path.{◌∙◌, ◌≡◌, refl, subst}
use Prim.Native.Nat.{ℕ, ◌*◌, ◌+◌}
use Rattle.judging.specs.Marks.{AllMarked}
use Rattle.judging.proofs.MarkSteps.{marked_more, marked-none}
use Rattle.judging.proofs.marks.mark_all.Goals as goal

pub loop-i-init : goal.loop-i-init
loop-i-init c = (omega arith, refl, marked-none _ _)

pub overflow_mul-at : goal.overflow_mul-at
overflow_mul-at c =
    let l = c.loop-i in
    record { fits = omega (arith, l.invariant.0, c.requires.1) }

pub bounds-room-at : goal.bounds-room-at
bounds-room-at c =
    let l = c.loop-i in
    omega (arith, c.loop-i-test.true, l.invariant.1, c.requires.0)

pub is_reached-reached-requires : goal.is_reached-reached-requires
is_reached-reached-requires c =
    let l = c.loop-i in
    let p = c.requires in
    (l.invariant.1 ∙ p.0, p.1)

pub bounds-room-at-in-loop-i : goal.bounds-room-at-in-loop-i
bounds-room-at-in-loop-i c =
    let l = c.loop-i in
    omega (arith, c.loop-i-test.true, l.invariant.1, c.requires.0)

pub loop-i-preserved : goal.loop-i-preserved
loop-i-preserved c =
    let l = c.loop-i in
    let h = c.loop-i-test.true in
    (omega (arith, h), length-set l.room (4 * l.i + 3) _ ∙ l.invariant.1, λ n k. marked_more n c.args.lines c.args.room.now l.room l.i k (l.invariant.2 n k) h _ (c.from.ensures ∙ c.is_reached-reached.ensures))

pub shape_of-room : goal.shape_of-room
shape_of-room c = c.loop-i.invariant.1

pub returns : goal.returns
returns c =
    let l = c.loop-i in
    let e : l.i ≡ c.args.lines = omega (arith, c.loop-i-test.false, l.invariant.0) in
    record {
      all_marked = subst (λ (k : ℕ). AllMarked c.args.lines c.args.room.now l.room k) e l.invariant.2;
      room_len_unchanged = l.invariant.1;
    }
