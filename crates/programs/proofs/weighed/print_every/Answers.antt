-- `weighed::print_every` meets its contract.
use Rattle.programs.proofs.WeightsSaid.{weights-refused, weights-said, weights-there}
use Rattle.programs.proofs.weighed.print_every.Goals as goal

pub hand_over-requires : goal.hand_over-requires
hand_over-requires g c = search weights-there

pub print_again-requires : goal.print_again-requires
print_again-requires g c = search weights-refused

pub returns-in-Ok : goal.returns-in-Ok
returns-in-Ok g c = search weights-said
