-- `coding::sum_rows` meets its contract. The loop's invariant: the sum is that of the rows from j on.
use borrow.Author.Rules.{rules}
use lib.Bits.{bit_xor}
use lib.ListN.{get_or}
use mathlib.Core.Path.{◌∙◌, ap, subst, sym}
use native.Mathlib.Omega.{arith}
use Prim.Native.Nat.{ℕ, ◌-◌, ◌<◌}
use Rattle.words.proofs.Word.{bit-lt}
use Rattle.words.specs.Sum.{taken}
use Rattle.coding.proofs.SummingRows.{sum-start, sum-down, sum-end}
use Rattle.coding.proofs.sum_rows.Goals as goal

pub loop-j-init : goal.loop-j-init
loop-j-init c = search (sum-start, rules)

pub with_row-sum-requires : goal.with_row-sum-requires
with_row-sum-requires c = subst (λ (x : ℕ). x < 2) (sym c.bit_at.ensures) (bit-lt (c.loop-j.j - 1) c.args.information)

pub loop-j-preserved : goal.loop-j-preserved
loop-j-preserved c =
    let j : ℕ = c.loop-j.j in (
      omega arith,
      c.with_row-sum.ensures ∙ ap (λ (d : ℕ). bit_xor (taken d (get_or c.args.rows.now (j - 1) 0)) c.loop-j.sum) c.bit_at.ensures
          ∙ sum-down c.args.rows.now c.args.k c.args.information c.requires.0 c.requires.1 j c.loop-j.sum
          c.loop-j-test.true c.loop-j.invariant.0 c.loop-j.invariant.1,
    )

pub returns : goal.returns
returns c =
    sum-end c.args.rows.now c.args.k c.args.information c.requires.0 c.requires.1 c.loop-j.j c.loop-j.sum
    (omega (arith, c.loop-j-test.false)) c.loop-j.invariant.1
