-- `surplus::surplus_of` meets its contract. The loop's invariant: the depths before t have their surplus.
use Rattle.judging.proofs.SurplusSteps.{Filling}
use Rattle.judging.specs.Steps.{SurplusAsks}
use Rattle.judging.proofs.surplus.surplus_of.Given as goal

abbrev pub invariant-loop-t : goal.invariant-loop-t
invariant-loop-t l = (p : SurplusAsks l.rows l.n l.room l.lines) → Filling p l.t l.states l.branches
