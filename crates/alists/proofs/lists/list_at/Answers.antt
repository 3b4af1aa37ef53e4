-- `lists::list_at` meets its contract.
use lib.ListN.{drop, length-replicate}
use lib.Seq.{length-take-le}
use mathlib.Core.Path.{sym}
use Prim.Native.Nat.{ℕ}
use Rattle.alists.proofs.Storing.{line_kept, line-lost}
use Rattle.alists.proofs.Judging.{list-bad, list-good, list-wrong}
use native.Mathlib.Omega.{arith}
use Rattle.alists.proofs.lists.list_at.Goals as goal

pub returns-in_err-next : goal.returns-in_err-next
returns-in_err-next c =
    let l = c.in_err-next.ensures.is in
    record { is = rw c.from_residual.ensures (list-bad c.args.most c.args.size c.args.weight _ (line-lost _ c.args.most (drop c.args.at c.args.text.now) l)) }

pub slice_bounds-word_of-end : goal.slice_bounds-word_of-end
slice_bounds-word_of-end c =
    let s = c.read_line.ensures.size in
    sym (length-take-le _ _ (omega (arith, s, length-replicate {A = ℕ} 64 0)))

pub returns-in_err-value : goal.returns-in_err-value
returns-in_err-value c =
    let l = c.in_ok-next.ensures.is in
    let w = c.in_err-value.ensures.is in
    let k = line_kept c.args.most (drop c.args.at c.args.text.now) c.requires.most_bound l.0 in
    record { is = rw c.from_residual-in_err-value.ensures (list-wrong c.args.most c.args.size c.args.weight _ _ _ k w) }

pub returns : goal.returns
returns c =
    let l = c.in_ok-next.ensures.is in
    let w = c.in_ok-value.ensures.is in
    let k = line_kept c.args.most (drop c.args.at c.args.text.now) c.requires.most_bound l.0 in
    record { is = (list-good c.args.most c.args.size c.args.weight _ _ _ _ k w, l.1) }
