-- `states::states` meets its contract. The states from i on are done.
use Rattle.decoding.proofs.Runs.{StatesFrom}
use Rattle.decoding.proofs.states.states.Given as goal

abbrev pub invariant-loop-i : goal.invariant-loop-i
invariant-loop-i l =
    StatesFrom l.initial.metrics l.step.from l.step.to l.step.section l.step.gain l.first l.count l.initial.raised l.i l.metrics l.word l.raised
