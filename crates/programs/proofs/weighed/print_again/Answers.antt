-- `weighed::print_again` meets its contract.
use Rattle.programs.proofs.WeightsSaid.{again-said}
use Rattle.programs.proofs.weighed.print_again.Goals as goal

pub returns : goal.returns
returns g c = search again-said
