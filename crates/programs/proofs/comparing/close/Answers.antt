-- `comparing::close` meets its contract.
use Rattle.programs.proofs.SameSaid.{closed-unwritten}
use Rattle.programs.proofs.comparing.close.Goals as goal

pub returns-in-Unwritten : goal.returns-in-Unwritten
returns-in-Unwritten g c = search closed-unwritten
