-- `weighing::put_weights` meets its contract.
use Rattle.outlines.proofs.WeightsPut.{LinesPut}
use Rattle.outlines.proofs.weighing.put_weights.Given as goal

abbrev pub invariant-loop-weight : goal.invariant-loop-weight
invariant-loop-weight l = LinesPut l.initial.room l.counts l.weight l.room l.next
