-- `numbers::read_rest` meets its contract: the numbers from i on are still to be put.
use Rattle.alists.proofs.Storing.{storing-bad, storing-end, storing-on, storing-start}
use native.Mathlib.Omega.{arith}
use Rattle.alists.proofs.numbers.read_rest.Goals as goal

pub loop-i-init : goal.loop-i-init
loop-i-init c =
    storing-start c.args.text.now c.args.count c.args.from 1 c.args.table.now c.requires.le_count c.requires.from_in_bounds

pub next_at-requires : goal.next_at-requires
next_at-requires c = c.loop-i.invariant.place

pub returns-in_err-number : goal.returns-in_err-number
returns-in_err-number c =
    record { size = c.loop-i.invariant.size; is = rw c.from_residual.ensures (storing-bad (omega arith) c.in_err-number.ensures.is c.loop-i.invariant) }

pub loop-i-preserved : goal.loop-i-preserved
loop-i-preserved c =
    let n = c.in_ok-number.ensures.is in
    storing-on c.in_ok-number.number.value c.in_ok-number.number.next (omega arith) n.0 n.1 c.loop-i.invariant

pub feed_at-requires : goal.feed_at-requires
feed_at-requires c = c.loop-i.invariant.place

pub returns : goal.returns
returns c =
    record { size = c.loop-i.invariant.size; is = storing-end (omega arith) c.feed_at.result c.feed_at.ensures c.loop-i.invariant }
