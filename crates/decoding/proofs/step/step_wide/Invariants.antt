-- `step::step_wide` meets its contract. The states of the first `at` decision words are done.
use Rattle.decoding.proofs.Progress.{WordsDone}
use Rattle.decoding.proofs.step.step_wide.Given as goal

abbrev pub invariant-loop-at : goal.invariant-loop-at
invariant-loop-at l = WordsDone l.initial.metrics l.step.from l.step.to l.initial.decisions l.step.section l.step.gain l.words l.initial.raised l.at l.metrics l.decisions l.near l.far l.raised
