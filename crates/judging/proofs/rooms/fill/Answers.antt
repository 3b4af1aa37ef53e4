-- `rooms::fill` meets its contract. The loop's invariant: the branches of the lines read stand in the room. The measure is what is left of the text.
use mathlib.Core.Path.{ap, refl, subst, sym, ◌∙◌}
use native.Mathlib.Omega.{arith}
use Prim.Native.Nat.{ℕ}
use Rattle.sheets.specs.Listed.{entries}
use Rattle.judging.specs.Listing.{branch_in}
use Rattle.judging.specs.Room.{InRange, Stored}
use Rattle.judging.proofs.Reading.{reading-end, reading-on, reading-start}
use Rattle.judging.proofs.RoomSteps.{stored_more, stored-none}
use Rattle.judging.proofs.rooms.fill.Goals as goal

pub loop-at-init : goal.loop-at-init
loop-at-init c = (reading-start _ _, refl, stored-none _ _)

pub put-requires : goal.put-requires
put-requires c =
    let l = c.loop-at in
    let m = reading-on _ _ l.i l.at l.invariant.0 c.loop-at-test.true c.read_entry-entry.result c.read_entry-entry.ensures in
    record {
      line_in_bounds = omega (arith, m.there, c.requires.room_len, l.invariant.1);
      in_range = subst InRange (ap branch_in m.line_is ∙ sym c.branch_in-branch.ensures) (c.requires.all_in_range l.i m.there);
    }

pub loop-at-smaller : goal.loop-at-smaller
loop-at-smaller c =
    let l = c.loop-at in
    let m = reading-on _ _ l.i l.at l.invariant.0 c.loop-at-test.true c.read_entry-entry.result c.read_entry-entry.ensures in
    omega (arith, m.further, m.small, c.loop-at-test.true)

pub loop-at-preserved : goal.loop-at-preserved
loop-at-preserved c =
    let l = c.loop-at in
    let m = reading-on _ _ l.i l.at l.invariant.0 c.loop-at-test.true c.read_entry-entry.result c.read_entry-entry.ensures in
    (m.on, c.put.ensures.size ∙ l.invariant.1, stored_more _ l.i l.room _ c.branch_in-branch.result l.invariant.2 c.put.ensures (c.branch_in-branch.ensures ∙ ap branch_in (sym m.line_is)))

pub shape_of-room : goal.shape_of-room
shape_of-room c = c.loop-at.invariant.1

pub returns : goal.returns
returns c =
    let l = c.loop-at in
    let e = reading-end _ _ l.i l.at l.invariant.0 c.loop-at-test.false in
    record {
      stored = subst (λ (m : ℕ). Stored (entries c.args.n c.args.text.now) m l.room) e l.invariant.2;
      room_len_unchanged = l.invariant.1;
    }
