-- `lines::first_faulty` meets its contract. The loop's invariant: so many lines are read, none of them faulty. The measure is what is left of the text.
use mathlib.Core.Path.{ap, ap₂, refl, sym, ◌∙◌}
use native.Mathlib.Omega.{arith}
use Rattle.judging.specs.Listing.{branch_in, faulty}
use Rattle.judging.proofs.Reading.{depth-after, reading-end, reading-on, reading-start, searching-found, searching-none, searching-on, searching-start}
use Rattle.judging.proofs.lines.first_faulty.Goals as goal

pub loop-at-init : goal.loop-at-init
loop-at-init c = (reading-start _ _, refl, searching-start _ _)

pub returns-then-is_faulty : goal.returns-then-is_faulty
returns-then-is_faulty c =
    let l = c.loop-at in
    let m = reading-on _ _ l.i l.at l.invariant.0 c.loop-at-test.true c.read_entry-entry.result c.read_entry-entry.ensures in
    searching-found l.invariant.2 m.there (ap₂ faulty m.line_is (sym l.invariant.1) ∙ sym c.is_faulty.ensures ∙ c.if-is_faulty.true)

pub loop-at-smaller : goal.loop-at-smaller
loop-at-smaller c =
    let l = c.loop-at in
    let m = reading-on _ _ l.i l.at l.invariant.0 c.loop-at-test.true c.read_entry-entry.result c.read_entry-entry.ensures in
    omega (arith, m.further, m.small, c.loop-at-test.true)

pub loop-at-preserved : goal.loop-at-preserved
loop-at-preserved c =
    let l = c.loop-at in
    let m = reading-on _ _ l.i l.at l.invariant.0 c.loop-at-test.true c.read_entry-entry.result c.read_entry-entry.ensures in
    (m.on, depth-after _ l.i c.branch_in-branch.result (c.branch_in-branch.ensures ∙ ap branch_in (sym m.line_is)), searching-on l.invariant.2 (ap₂ faulty m.line_is (sym l.invariant.1) ∙ sym c.is_faulty.ensures ∙ c.if-is_faulty.false))

pub returns : goal.returns
returns c =
    let l = c.loop-at in
    let e = reading-end _ _ l.i l.at l.invariant.0 c.loop-at-test.false in
    searching-none l.invariant.2 (omega (arith, e))
