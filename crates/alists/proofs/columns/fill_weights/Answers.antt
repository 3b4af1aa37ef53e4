-- `columns::fill_weights` meets its contract: the weights from i on are still to be put.
use mathlib.Core.Path.{refl, sym, ◌∙◌}
use Rattle.alists.proofs.Filling.{weights-end, weights-on}
use native.Mathlib.Omega.{arith}
use Rattle.alists.proofs.columns.fill_weights.Goals as goal

pub loop-i-init : goal.loop-i-init
loop-i-init c = (omega arith, refl)

pub loop-i-preserved : goal.loop-i-preserved
loop-i-preserved c =
    (omega arith, rw c.fill_list.ensures.count (sym (weights-on c.loop-i.table c.args.words.now c.loop-i.i (omega arith)) ∙ c.loop-i.invariant.1))

pub returns : goal.returns
returns c =
    record { stands = sym (weights-end c.loop-i.table c.args.words.now c.loop-i.i (omega arith)) ∙ c.loop-i.invariant.1 }
