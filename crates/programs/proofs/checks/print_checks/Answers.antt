-- `checks::print_checks` meets its contract.
use Rattle.programs.proofs.ChecksSaid.{checks-refused, checks-there}
use Rattle.programs.proofs.checks.print_checks.Goals as goal

pub hand_over-requires : goal.hand_over-requires
hand_over-requires g c = search checks-there

pub returns-in-Err : goal.returns-in-Err
returns-in-Err g c = search checks-refused
