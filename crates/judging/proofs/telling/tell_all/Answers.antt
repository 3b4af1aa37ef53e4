-- `telling::tell_all` meets its contract. The loop's invariant: the lines from i on are told.
use native.Mathlib.Omega.{arith}
use mathlib.Core.Path.{◌≡◌, subst}
use Prim.Native.Nat.{ℕ, ◌-◌, ◌<◌, suc}
use Rattle.judging.proofs.RoomTold.{asking, depth_below, lead-small, same_more, same_none, told_more, told_none}
use Rattle.judging.specs.Room.{ToldFrom, theirs}
use Rattle.judging.proofs.telling.tell_all.Goals as goal

pub loop-i-init : goal.loop-i-init
loop-i-init c = (omega arith, same_none _ _, told_none c.args.rows.now c.args.mask c.args.n _ _ _)

pub overflow_mul-at : goal.overflow_mul-at
overflow_mul-at c =
    let l = c.loop-i in
    record { fits = omega (arith, l.invariant.0, c.requires.holds.few) }

pub bounds-room-at : goal.bounds-room-at
bounds-room-at c =
    let l = c.loop-i in
    omega (arith, c.loop-i-test.true, l.invariant.0, l.invariant.1.size, c.requires.holds.size)

pub overflow_add-depth : goal.overflow_add-depth
overflow_add-depth c =
    let l = c.loop-i in
    let d : l.i ≡ suc (l.i - 1) = omega (arith, c.loop-i-test.true) in
    let t = subst (λ (k : ℕ). ToldFrom (theirs c.args.n c.args.lines c.args.room.now) c.args.rows.now c.args.mask c.args.n c.args.lines l.room k) d l.invariant.2 in
    let m : l.i - 1 < c.args.lines = omega (arith, c.loop-i-test.true, l.invariant.0) in
    record { fits = omega (arith, depth_below c.args.rows.now c.args.mask c.args.n c.args.lines c.args.room.now l.room (l.i - 1) c.requires l.invariant.1 t m, c.requires.holds.short) }

pub tell-number-requires : goal.tell-number-requires
tell-number-requires c =
    let l = c.loop-i in
    let d : l.i ≡ suc (l.i - 1) = omega (arith, c.loop-i-test.true) in
    let t = subst (λ (k : ℕ). ToldFrom (theirs c.args.n c.args.lines c.args.room.now) c.args.rows.now c.args.mask c.args.n c.args.lines l.room k) d l.invariant.2 in
    let m : l.i - 1 < c.args.lines = omega (arith, c.loop-i-test.true, l.invariant.0) in
    record {
      asking = asking c.args.rows.now c.args.mask c.args.n c.args.lines c.args.room.now l.room (l.i - 1) c.requires l.invariant.1 t m;
      state_bound = lead-small c.args.rows.now c.args.mask c.args.n c.args.lines c.args.room.now l.room (l.i - 1) c.requires l.invariant.1 t m;
    }

pub bounds-room-at-in-loop-i-2 : goal.bounds-room-at-in-loop-i-2
bounds-room-at-in-loop-i-2 c =
    let l = c.loop-i in
    omega (arith, c.loop-i-test.true, l.invariant.0, l.invariant.1.size, c.requires.holds.size)

pub loop-i-preserved : goal.loop-i-preserved
loop-i-preserved c =
    let l = c.loop-i in
    let d : l.i ≡ suc (l.i - 1) = omega (arith, c.loop-i-test.true) in
    let t = subst (λ (k : ℕ). ToldFrom (theirs c.args.n c.args.lines c.args.room.now) c.args.rows.now c.args.mask c.args.n c.args.lines l.room k) d l.invariant.2 in
    let m : l.i - 1 < c.args.lines = omega (arith, c.loop-i-test.true, l.invariant.0) in
    (omega (arith, l.invariant.0), same_more c.args.rows.now c.args.mask c.args.n c.args.lines c.args.room.now l.room (l.i - 1) c.requires l.invariant.1 t m c.tell-number.result, told_more c.args.rows.now c.args.mask c.args.n c.args.lines c.args.room.now l.room (l.i - 1) c.requires l.invariant.1 t m c.tell-number.result c.tell-number.ensures)

pub shape_of-room : goal.shape_of-room
shape_of-room c = c.loop-i.invariant.1.size

pub returns : goal.returns
returns c =
    let l = c.loop-i in
    let e : l.i ≡ 0 = omega (arith, c.loop-i-test.false) in
    record { same = l.invariant.1; told = subst (λ (k : ℕ). ToldFrom (theirs c.args.n c.args.lines c.args.room.now) c.args.rows.now c.args.mask c.args.n c.args.lines l.room k) e l.invariant.2 }
