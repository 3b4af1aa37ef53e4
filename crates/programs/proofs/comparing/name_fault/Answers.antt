-- `comparing::name_fault` meets its contract.
use Rattle.programs.proofs.RunEnds.{status-fault}
use Rattle.programs.proofs.comparing.name_fault.Goals as goal

pub returns : goal.returns
returns g c = search status-fault
