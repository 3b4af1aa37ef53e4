-- `blocks::pick` meets its contract.
use Rattle.decoding.proofs.Picks.{pick-asks, pick-done}
use Rattle.decoding.proofs.blocks.pick.Goals as goal

pub choose-choice-requires : goal.choose-choice-requires
choose-choice-requires c = search pick-asks

pub returns : goal.returns
returns c = search pick-done
