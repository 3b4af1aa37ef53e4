-- `lists::word_of` meets its contract.
use lib.Seq.{length-take-le}
use mathlib.Core.Path.{sym, ◌∙◌}
use Rattle.alists.proofs.Judging.{word-padded, word-short, word-unpadded}
use native.Mathlib.Omega.{arith}
use Rattle.alists.proofs.lists.word_of.Goals as goal

pub returns-then-list-weight : goal.returns-then-list-weight
returns-then-list-weight c = record { is = word-short c.args.size c.args.weight c.args.list.now (omega arith) }

pub returns-then-not-zeros_only : goal.returns-then-not-zeros_only
returns-then-not-zeros_only c =
    record { is = word-unpadded c.args.size c.args.weight c.args.list.now (omega arith) (sym c.zeros_only.ensures ∙ c.if-not-zeros_only.true) }

pub slice_bounds-ones_of-end : goal.slice_bounds-ones_of-end
slice_bounds-ones_of-end c = sym (length-take-le _ _ (omega arith))

pub returns : goal.returns
returns c =
    let e = word-padded c.args.size c.args.weight c.args.list.now (omega arith) (sym c.zeros_only.ensures ∙ c.if-not-zeros_only.false) in
    rw e c.ones_of.ensures
