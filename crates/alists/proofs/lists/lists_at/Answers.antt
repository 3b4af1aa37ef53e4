-- `lists::lists_at` meets its contract: the lists from i on are still to be put.
use mathlib.Core.Path.{sym, ◌∙◌}
use Rattle.alists.proofs.Judging.{laying-bad, laying-end, laying-hidden, laying-on, laying-start}
use native.Mathlib.Omega.{arith}
use Rattle.alists.proofs.lists.lists_at.Goals as goal

pub loop-i-init : goal.loop-i-init
loop-i-init c =
    laying-start c.args.most c.args.size c.args.seen.now c.args.weights.now c.args.text.now c.args.from c.args.table.now c.requires.from_in_bounds

pub list_at-requires : goal.list_at-requires
list_at-requires c =
    record {
      at_in_bounds = c.loop-i.invariant.place;
      most_bound = c.requires.most_bound;
      size_bound = c.requires.size_bound;
    }

pub returns-in_default : goal.returns-in_default
returns-in_default c =
    let l = c.in_default.ensures.is in
    record { size = c.loop-i.invariant.sized; is = (laying-bad (omega arith) c.loop-i.invariant l, omega arith) }

pub shows_columns-requires : goal.shows_columns-requires
shows_columns-requires c = c.requires.seen_len_bound

pub returns-then-not-shows_columns : goal.returns-then-not-shows_columns
returns-then-not-shows_columns c =
    let l = c.in-Some.ensures.is in
    let hidden = sym c.shows_columns.ensures ∙ c.if-not-shows_columns.true in
    record {
      size = c.loop-i.invariant.sized;
      is = (laying-hidden (omega arith) c.loop-i.invariant c.in-Some.list.value c.in-Some.list.next l.0 hidden, omega arith);
    }

pub loop-i-preserved : goal.loop-i-preserved
loop-i-preserved c =
    let l = c.in-Some.ensures.is in
    laying-on (omega arith) c.loop-i.invariant c.in-Some.list.value c.in-Some.list.next l.0 l.1 (sym c.shows_columns.ensures ∙ c.if-not-shows_columns.false)

pub returns : goal.returns
returns c =
    record { size = c.loop-i.invariant.sized; is = (laying-end (omega arith) c.loop-i.invariant, c.loop-i.invariant.place) }
