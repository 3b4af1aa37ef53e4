-- `listing::list_lines` meets its contract.
use Rattle.std.proofs.Common.{refl, arith, rules}
use Rattle.reports.specs.Remaining.{rooms}
use Rattle.reports.proofs.ListingLines.{all-added, line-fits, none_yet, one_more}
use Rattle.reports.proofs.listing.list_lines.Goals as goal

pub loop-init : goal.loop-init
loop-init c =
    (omega arith, refl, refl, refl, none_yet c.args.input.now c.args.report (rooms c.args.metrics.now c.args.decisions.now) c.args.listing.now c.requires.ready)

pub list_line-progress-requires : goal.list_line-progress-requires
list_line-progress-requires c =
    let l = c.loop in
    line-fits c.args.input.now c.args.report (rooms c.args.metrics.now c.args.decisions.now) c.args.listing.now c.args.lines _ _ _ _ l.invariant.4 c.requires
    c.loop-test.true l.invariant.3 l.invariant.1 l.invariant.2

pub loop-preserved : goal.loop-preserved
loop-preserved c =
    let l = c.loop in
    (omega (arith, c.loop-test.true), search rules, search rules, search rules, one_more c.args.input.now c.args.report (rooms c.args.metrics.now c.args.decisions.now) c.args.listing.now c.args.lines _ _ _ _ l.invariant.4 _ _ _ c.list_line-progress.ensures)

pub shape_of-metrics : goal.shape_of-metrics
shape_of-metrics c = c.loop.invariant.1

pub shape_of-decisions : goal.shape_of-decisions
shape_of-decisions c = c.loop.invariant.2

pub shape_of-listing : goal.shape_of-listing
shape_of-listing c = c.loop.invariant.3

pub returns : goal.returns
returns c =
    let l = c.loop in
    all-added c.args.input.now c.args.report (rooms c.args.metrics.now c.args.decisions.now) c.args.listing.now c.args.lines _ _ _ _ l.invariant.4 c.requires (omega (arith, l.invariant.0, c.loop-test.false))
