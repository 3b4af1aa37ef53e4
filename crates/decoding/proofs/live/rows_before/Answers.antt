-- `decoding::live::rows_before` meets its contract.
use lib.ListN.{take}
use mathlib.Core.Path.{◌∙◌, ◌≡◌, ap, sym}
use native.Mathlib.Omega.{arith}
use Prim.Native.Nat.{suc, ◌-◌}
use Rattle.decoding.proofs.PassedBack.{before-all, before_last, last-there}
use Rattle.decoding.proofs.PassedRows.{row_first}
use Rattle.words.specs.Ends.{firsts}
use Rattle.decoding.proofs.live.rows_before.Goals as goal

pub returns-then-next-eq0 : goal.returns-then-next-eq0
returns-then-next-eq0 c =
    record { live = λ k p e b. before-all p c.args.t e b (λ j q f. omega (arith, c.if-next-eq0.true, q)) }

pub overflow_shl-result : goal.overflow_shl-result
overflow_shl-result c = omega (arith, c.if-next-eq0.false, c.requires.1)

pub returns-then-first_one-t : goal.returns-then-first_one-t
returns-then-first_one-t c =
    let one_more : c.args.next ≡ suc (c.args.next - 1) = omega (arith, c.if-next-eq0.false) in
    record {
      live = λ k p e b.
          let f = row_first p (c.args.next - 1) (last-there p c.args.t e b one_more) c.first_one.ensures in
          before_last p c.args.t e b one_more (sym f ∙ c.if-first_one-t.true);
    }

pub returns : goal.returns
returns c =
    let one_more : c.args.next ≡ suc (c.args.next - 1) = omega (arith, c.if-next-eq0.false) in
    record {
      live = λ k p e b. before-all p c.args.t e b (λ j r f.
          let i : c.args.next - 1 ≡ j = omega (arith, r) in
          let g = row_first p (c.args.next - 1) (last-there p c.args.t e b one_more) c.first_one.ensures in
          c.if-first_one-t.false (g ∙ ap (firsts (take k c.args.rows.now)) i ∙ f));
    }
