-- `lines::count_lines` meets its contract. The loop's invariant: so many lines are read. The measure is what is left of the text.
use native.Mathlib.Omega.{arith}
use Rattle.judging.proofs.Reading.{reading-end, reading-on, reading-start}
use Rattle.judging.proofs.lines.count_lines.Goals as goal

pub loop-at-init : goal.loop-at-init
loop-at-init c = reading-start _ _

pub loop-at-smaller : goal.loop-at-smaller
loop-at-smaller c =
    let l = c.loop-at in
    let m = reading-on _ _ l.i l.at l.invariant c.loop-at-test.true c.read_entry-entry.result c.read_entry-entry.ensures in
    omega (arith, m.further, m.small, c.loop-at-test.true)

pub loop-at-preserved : goal.loop-at-preserved
loop-at-preserved c =
    let l = c.loop-at in
    (reading-on _ _ l.i l.at l.invariant c.loop-at-test.true c.read_entry-entry.result c.read_entry-entry.ensures).on

pub returns : goal.returns
returns c =
    let l = c.loop-at in
    reading-end _ _ l.i l.at l.invariant c.loop-at-test.false
