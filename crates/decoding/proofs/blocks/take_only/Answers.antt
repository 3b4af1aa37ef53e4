-- `blocks::take_only` meets its contract.
use Rattle.decoding.proofs.Picks.{lone-asks, lone-done}
use Rattle.decoding.proofs.blocks.take_only.Goals as goal

pub alone-choice-requires : goal.alone-choice-requires
alone-choice-requires c = search lone-asks

pub returns : goal.returns
returns c = search lone-done
