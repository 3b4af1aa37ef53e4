-- `checks::hand_over` meets its contract.
use Rattle.programs.proofs.ChecksSaid.{checks-taken, checks-untaken}
use Rattle.programs.proofs.checks.hand_over.Goals as goal

pub returns-in-Some : goal.returns-in-Some
returns-in-Some g c = search checks-taken

pub returns-in-None : goal.returns-in-None
returns-in-None g c = search checks-untaken
