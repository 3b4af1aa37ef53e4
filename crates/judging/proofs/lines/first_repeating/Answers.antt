-- `lines::first_repeating` meets its contract. The loop's invariant: so many lines are read, none of which repeats. The measure is what is left of the text.
use mathlib.Core.Path.{ap, sym, ◌∙◌}
use native.Mathlib.Omega.{arith}
use Rattle.sheets.specs.Listed.{entries}
use Rattle.judging.specs.Listing.{branch_in, clashes}
use Rattle.judging.proofs.Reading.{reading-end, reading-on, reading-start, searching-found, searching-none, searching-on, searching-start}
use Rattle.judging.proofs.lines.first_repeating.Goals as goal

pub loop-at-init : goal.loop-at-init
loop-at-init c = (reading-start _ _, searching-start _ _)

pub clashes_among-requires : goal.clashes_among-requires
clashes_among-requires c = c.loop-at.invariant.0.few

pub returns-then-clashes_among : goal.returns-then-clashes_among
returns-then-clashes_among c =
    let l = c.loop-at in
    let m = reading-on _ _ l.i l.at l.invariant.0 c.loop-at-test.true c.read_entry-entry.result c.read_entry-entry.ensures in
    searching-found l.invariant.1 m.there (ap (clashes (entries c.args.n c.args.text.now) l.i) (ap branch_in m.line_is ∙ sym c.branch_in-branch.ensures) ∙ sym c.clashes_among.ensures ∙ c.if-clashes_among.true)

pub loop-at-smaller : goal.loop-at-smaller
loop-at-smaller c =
    let l = c.loop-at in
    let m = reading-on _ _ l.i l.at l.invariant.0 c.loop-at-test.true c.read_entry-entry.result c.read_entry-entry.ensures in
    omega (arith, m.further, m.small, c.loop-at-test.true)

pub loop-at-preserved : goal.loop-at-preserved
loop-at-preserved c =
    let l = c.loop-at in
    let m = reading-on _ _ l.i l.at l.invariant.0 c.loop-at-test.true c.read_entry-entry.result c.read_entry-entry.ensures in
    (m.on, searching-on l.invariant.1 (ap (clashes (entries c.args.n c.args.text.now) l.i) (ap branch_in m.line_is ∙ sym c.branch_in-branch.ensures) ∙ sym c.clashes_among.ensures ∙ c.if-clashes_among.false))

pub returns : goal.returns
returns c =
    let l = c.loop-at in
    let e = reading-end _ _ l.i l.at l.invariant.0 c.loop-at-test.false in
    searching-none l.invariant.1 (omega (arith, e))
