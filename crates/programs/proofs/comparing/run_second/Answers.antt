-- `comparing::run_second` meets its contract.
use Rattle.programs.proofs.SameSaid.{outcome-status}
use Rattle.programs.proofs.comparing.run_second.Goals as goal

pub returns : goal.returns
returns g c = search outcome-status
