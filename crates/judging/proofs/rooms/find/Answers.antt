-- `rooms::find` meets its contract. The loop's invariant: no line before j has that start.
use borrow.Author.Tests.{eq-eqb, ne_eqb}
use native.Mathlib.Omega.{arith}
use Rattle.judging.specs.Room.{start_at}
use Rattle.judging.proofs.Reading.{searching-found, searching-none, searching-on, searching-start}
use Rattle.judging.proofs.rooms.find.Goals as goal

pub loop-j-init : goal.loop-j-init
loop-j-init c = (omega arith, searching-start _ _)

pub returns-then-room-j : goal.returns-then-room-j
returns-then-room-j c =
    let l = c.loop-j in
    searching-found l.invariant.1 c.loop-j-test.true (eq-eqb (start_at c.args.room.now l.j) c.args.key c.if-room-j.true)

pub loop-j-preserved : goal.loop-j-preserved
loop-j-preserved c =
    let l = c.loop-j in
    (omega (arith, c.loop-j-test.true), searching-on l.invariant.1 (ne_eqb (start_at c.args.room.now l.j) c.args.key c.if-room-j.false))

pub returns : goal.returns
returns c =
    let l = c.loop-j in
    searching-none l.invariant.1 c.loop-j-test.false
