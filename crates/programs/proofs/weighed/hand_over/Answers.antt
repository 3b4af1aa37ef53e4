-- `weighed::hand_over` meets its contract.
use Rattle.programs.proofs.WeightsSaid.{weights-taken, weights-untaken}
use Rattle.programs.proofs.weighed.hand_over.Goals as goal

pub returns-in-Some : goal.returns-in-Some
returns-in-Some g c = search weights-taken

pub returns-in-None : goal.returns-in-None
returns-in-None g c = search weights-untaken
