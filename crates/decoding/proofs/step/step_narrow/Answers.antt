-- `step::step_narrow` meets its contract.
use Rattle.decoding.proofs.Progress.{one_word, one-word-fits}
use Rattle.decoding.proofs.step.step_narrow.Goals as goal

pub states-run-requires : goal.states-run-requires
states-run-requires c = search one-word-fits

pub returns : goal.returns
returns c = search one_word
