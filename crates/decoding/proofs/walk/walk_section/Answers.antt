-- `decoding::walk::walk_section` meets its contract, by the laws of proofs/WalkSection.
use mathlib.Core.Path.{refl}
use native.Mathlib.Omega.{arith}
use Rattle.decoding.specs.Turning.{turned_by}
use Rattle.decoding.proofs.PassedRows.{active-fits, ending-few}
use Rattle.decoding.proofs.WalkSection.{active-is, decision-there, ended-among, ending-counted, live-few, next-few, state_small, walk-begin-small, walked_on}
use Rattle.decoding.proofs.walk.walk_section.Goals as goal

pub overflow_mul-t : goal.overflow_mul-t
overflow_mul-t c =
    record { fits = omega (arith, walk-begin-small c.args.rows.now c.args.sizes c.args.ends.now (turned_by c.args.sizes.rest c.args.samples.now) c.args.decisions.now c.args.t c.args.at c.requires) }

pub decision-chosen-requires : goal.decision-chosen-requires
decision-chosen-requires c =
    (walk-begin-small c.args.rows.now c.args.sizes c.args.ends.now (turned_by c.args.sizes.rest c.args.samples.now) c.args.decisions.now c.args.t c.args.at c.requires, state_small c.args.rows.now c.args.sizes c.args.ends.now (turned_by c.args.sizes.rest c.args.samples.now) c.args.decisions.now c.args.t c.args.at c.requires, decision-there c.args.rows.now c.args.sizes c.args.ends.now (turned_by c.args.sizes.rest c.args.samples.now) c.args.decisions.now c.args.t c.args.at c.requires)

pub branch_taking-branch-requires : goal.branch_taking-branch-requires
branch_taking-branch-requires c =
    (state_small c.args.rows.now c.args.sizes c.args.ends.now (turned_by c.args.sizes.rest c.args.samples.now) c.args.decisions.now c.args.t c.args.at c.requires, live-few c.args.rows.now c.args.sizes c.args.ends.now (turned_by c.args.sizes.rest c.args.samples.now) c.args.decisions.now c.args.t c.args.at c.requires)

pub overflow_add-active : goal.overflow_add-active
overflow_add-active c =
    record { fits = active-fits c.requires.fit.plate c.args.t (active-is c.args.rows.now c.args.sizes c.args.ends.now (turned_by c.args.sizes.rest c.args.samples.now) c.args.decisions.now c.args.t c.args.at c.requires _ c.row_beginning-beginning.ensures.mark) }

pub leads-requires : goal.leads-requires
leads-requires c =
    ending-few c.requires.fit.plate c.args.t c.requires.ends_are (omega (arith, c.requires.depth, c.requires.fit.short))

pub mark_of-requires : goal.mark_of-requires
mark_of-requires c =
    ending-few c.requires.fit.plate c.args.t c.requires.ends_are (omega (arith, c.requires.depth, c.requires.fit.short))

pub overflow_sub-result : goal.overflow_sub-result
overflow_sub-result c =
    ended-among c.args.rows.now c.args.sizes c.args.ends.now (turned_by c.args.sizes.rest c.args.samples.now) c.args.decisions.now c.args.t c.args.at c.requires _ c.row_beginning-beginning.ensures.mark c.mark_of.ensures

pub and_beginning-requires : goal.and_beginning-requires
and_beginning-requires c =
    omega (arith, live-few c.args.rows.now c.args.sizes c.args.ends.now (turned_by c.args.sizes.rest c.args.samples.now) c.args.decisions.now c.args.t c.args.at c.requires)

pub but_ending-requires : goal.but_ending-requires
but_ending-requires c =
    omega (arith, c.and_beginning.ensures, ending-counted c.args.rows.now c.args.sizes c.args.ends.now (turned_by c.args.sizes.rest c.args.samples.now) c.args.decisions.now c.args.t c.args.at c.requires _ c.row_beginning-beginning.ensures.row)

pub and_beginning-requires-2 : goal.and_beginning-requires-2
and_beginning-requires-2 c =
    next-few c.args.rows.now c.args.sizes c.args.ends.now (turned_by c.args.sizes.rest c.args.samples.now) c.args.decisions.now c.args.t c.args.at c.requires

pub returns : goal.returns
returns c =
    let d = c.decision-chosen in
    let r = c.row_beginning-beginning in
    let k = c.row_taken-taken in
    let x = c.branch_taking-branch in
    let m = c.mark_of in
    walked_on c.args.rows.now c.args.sizes c.args.ends.now (turned_by c.args.sizes.rest c.args.samples.now) c.args.decisions.now c.args.t c.args.at c.requires d.result d.ensures _ r.ensures.row k.result k.ensures x.result x.ensures _ _ _ _ _ _ _
    (active-is c.args.rows.now c.args.sizes c.args.ends.now (turned_by c.args.sizes.rest c.args.samples.now) c.args.decisions.now c.args.t c.args.at c.requires _ r.ensures.mark) refl c.leads.ensures m.ensures
    (omega (arith, ended-among c.args.rows.now c.args.sizes c.args.ends.now (turned_by c.args.sizes.rest c.args.samples.now) c.args.decisions.now c.args.t c.args.at c.requires _ r.ensures.mark m.ensures))
    (omega (arith, c.but_ending.ensures, c.and_beginning.ensures)) c.and_beginning-2.ensures
