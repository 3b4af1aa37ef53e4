-- `outlining::print_text` meets its contract.
use Rattle.programs.proofs.TextsSaid.{refused-said, text-there}
use Rattle.programs.proofs.outlining.print_text.Goals as goal

pub hand_over-requires : goal.hand_over-requires
hand_over-requires g c = search text-there

pub returns-in-Err : goal.returns-in-Err
returns-in-Err g c = search refused-said
