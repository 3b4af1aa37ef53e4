-- `weighing::weigh` meets its contract.
use Rattle.std.proofs.lemmas.Result.{err_from_is_err_and}
use lib.ListN.{length-replicate}
use mathlib.Core.Path.{◌∙◌}
use Prim.Native.Nat.{ℕ}
use Rattle.outlines.proofs.WeightsReplied.{counts-fit, counts-taken, counts_there, weighed-by, weighing-refused}
use Rattle.outlines.proofs.weighing.weigh.Goals as goal

pub overflow_add-size : goal.overflow_add-size
overflow_add-size c = search counts-fit

-- counts[..size]
pub slice_bounds-counts-end : goal.slice_bounds-counts-end
slice_bounds-counts-end c = counts_there c.requires.prepared (c.count_weights.auto.counts ∙ length-replicate {A = ℕ} _ 0)

pub slice_bounds-put_lines-end : goal.slice_bounds-put_lines-end
slice_bounds-put_lines-end c = counts-taken c.requires.prepared _ (c.count_weights.auto.counts ∙ length-replicate {A = ℕ} _ 0)

pub returns-in_err-least : goal.returns-in_err-least
returns-in_err-least c = let p = err_from_is_err_and c.from_residual.result c.from_residual.ensures.1 in rw (p.1, p.2) (weighing-refused c.requires.prepared _ _ _ c.in_err-least.was c.count_weights.ensures)

pub returns : goal.returns
returns c = weighed-by c.requires.prepared _ _ _ _ c.requires.in_bounds c.in_ok-least.was c.count_weights.ensures c.put_lines.ensures
