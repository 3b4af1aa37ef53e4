-- `outlining::hand_over` meets its contract.
use Rattle.programs.proofs.TextsSaid.{text-taken, text-untaken}
use Rattle.programs.proofs.outlining.hand_over.Goals as goal

pub returns-in-Some : goal.returns-in-Some
returns-in-Some g c = search text-taken

pub returns-in-None : goal.returns-in-None
returns-in-None g c = search text-untaken
