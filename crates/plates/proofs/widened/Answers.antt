-- `plates::widened` meets its contract: entry by entry.
use borrow.Author.Rules.{rules}
use lib.ListN.{length, length-replicate, length-set, replicate}
use lib.Seq.{paste-zero}
use mathlib.Core.Path.{sym, ◌∙◌, ◌≡◌}
use native.Mathlib.Omega.{arith}
use Prim.Native.Nat.{ℕ}
use Rattle.plates.proofs.EntriesCopied.{copied_all, copied_on}
use Rattle.plates.proofs.widened.Goals as goal

pub loop-t-init : goal.loop-t-init
loop-t-init c = (omega arith, length-replicate {A = ℕ} 65 0, paste-zero (replicate {A = ℕ} 65 0) 0 c.args.profile)

pub loop-t-preserved : goal.loop-t-preserved
loop-t-preserved c =
    let l = c.loop-t in
    let size : length c.args.profile ≡ 65 = search rules in
    (omega arith, simp length-set l.invariant.1, copied_on _ _ (length-replicate {A = ℕ} 65 0 ∙ sym size) (omega (arith, size)) l.invariant.2)

pub returns : goal.returns
returns c =
    let l = c.loop-t in
    let size : length c.args.profile ≡ 65 = search rules in
    copied_all _ _ (length-replicate {A = ℕ} 65 0 ∙ sym size) {t = l.t} (omega (arith, size, l.invariant.0, c.loop-t-test.false)) l.invariant.2
