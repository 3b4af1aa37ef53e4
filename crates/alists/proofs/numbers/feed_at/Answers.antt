-- `numbers::feed_at` meets its contract.
use Rattle.alists.proofs.NumbersFound.{feed-end, feed-here, feed-other}
use native.Mathlib.Omega.{arith}
use Rattle.alists.proofs.numbers.feed_at.Goals as goal
use Rattle.alists.proofs.numbers.feed_at.Goals.{then-at-text-via-then-at-text, then-at-text-via-else-at-text+then-text-at-ne10}

pub returns-then-at-text : goal.returns-then-at-text
returns-then-at-text c =
    elim c.then-at-text.branch [
      | then-at-text-via-then-at-text w ↦ record { is = feed-end c.args.text.now c.args.at (omega (arith, w.if-at-text.true)) }
      | then-at-text-via-else-at-text+then-text-at-ne10 w ↦
          record { is = feed-other c.args.text.now c.args.at (omega (arith, w.if-at-text.false)) w.if-text-at-ne10.true }
    ]

pub returns : goal.returns
returns c = record { is = (feed-here c.args.text.now c.args.at (omega arith) (omega arith), omega arith) }
