-- `numbers::read_line` meets its contract.
use lib.ListN.{drop, length-set}
use mathlib.Core.Path.{refl, ◌∙◌}
use Rattle.alists.proofs.Storing.{feed-stores, first-lost, first-stored}
use native.Mathlib.Omega.{arith}
use Rattle.alists.proofs.numbers.read_line.Goals as goal

pub returns-then-count-eq0 : goal.returns-then-count-eq0
returns-then-count-eq0 c =
    record { size = refl; is = rw c.if-count-eq0.true (feed-stores c.args.table.now 0 c.feed_at.result c.feed_at.ensures) }

pub returns-in_err-first : goal.returns-in_err-first
returns-in_err-first c =
    let n = c.in_err-first.ensures.is in
    record { size = refl; is = rw c.from_residual.ensures (first-lost c.args.table.now c.args.count (drop c.args.at c.args.text.now) (omega arith) n) }

pub read_rest-requires : goal.read_rest-requires
read_rest-requires c =
    let n = c.in_ok-first.ensures.is in
    record {
      from_in_bounds = n.1;
      le_count = omega arith;
      count_bound = c.requires.count_bound;
    }

pub returns : goal.returns
returns c =
    let n = c.in_ok-first.ensures.is in
    let rest = drop c.in_ok-first.first.next c.args.text.now in
    let e = first-stored c.args.table.now c.args.count (drop c.args.at c.args.text.now) c.in_ok-first.first.value rest (omega arith) n.0 in
    record {
      size = c.read_rest.ensures.size ∙ length-set c.args.table.now 0 c.in_ok-first.first.value;
      is = rw e c.read_rest.ensures.is;
    }
