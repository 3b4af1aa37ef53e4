-- `refusing::print_refused` meets its contract.
use Rattle.programs.proofs.TextsSaid.{line-there, refusal-taken, refusal-untaken}
use Rattle.programs.proofs.refusing.print_refused.Goals as goal

pub returns-in_default : goal.returns-in_default
returns-in_default g c = search refusal-untaken

pub hand_refusal-requires : goal.hand_refusal-requires
hand_refusal-requires g c = search line-there

pub returns-in-Some : goal.returns-in-Some
returns-in-Some g c = search refusal-taken

pub returns-in-None : goal.returns-in-None
returns-in-None g c = search refusal-untaken
