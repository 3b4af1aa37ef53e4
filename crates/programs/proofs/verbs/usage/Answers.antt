-- `verbs::usage` meets its contract.
use Rattle.programs.proofs.RunEnds.{status-fault}
use Rattle.programs.proofs.verbs.usage.Goals as goal

pub returns : goal.returns
returns g c = search status-fault
