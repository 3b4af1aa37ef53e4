-- `numbers::next_at` meets its contract.
use Rattle.alists.proofs.NumbersFound.{next-end, next_here, next-other}
use native.Mathlib.Omega.{arith}
use Rattle.alists.proofs.numbers.next_at.Goals as goal
use Rattle.alists.proofs.numbers.next_at.Goals.{then-at-text-via-then-at-text, then-at-text-via-else-at-text+then-text-at-ne32}

pub returns-then-at-text : goal.returns-then-at-text
returns-then-at-text c =
    elim c.then-at-text.branch [
      | then-at-text-via-then-at-text w ↦ record { is = next-end c.args.text.now c.args.at (omega (arith, w.if-at-text.true)) }
      | then-at-text-via-else-at-text+then-text-at-ne32 w ↦
          record { is = next-other c.args.text.now c.args.at (omega (arith, w.if-at-text.false)) w.if-text-at-ne32.true }
    ]

pub number_at-requires : goal.number_at-requires
number_at-requires c = c.skip_spaces.ensures.within

pub returns : goal.returns
returns c =
    let e = next_here c.args.text.now c.args.at (omega arith) (omega arith) in
    rw (e, ← c.skip_spaces.ensures.after) c.number_at.ensures
