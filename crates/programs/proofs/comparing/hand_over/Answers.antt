-- `comparing::hand_over` meets its contract.
use Rattle.programs.proofs.SameSaid.{other-taken, same-taken}
use Rattle.programs.proofs.comparing.hand_over.Goals as goal

pub returns-then-same : goal.returns-then-same
returns-then-same g c = search same-taken

pub returns : goal.returns
returns g c = search other-taken
