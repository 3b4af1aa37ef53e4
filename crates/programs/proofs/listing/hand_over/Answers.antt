-- `listing::hand_over` meets its contract.
use Rattle.programs.proofs.LinesPrinted.{handed-over}
use Rattle.programs.proofs.listing.hand_over.Goals as goal

pub returns : goal.returns
returns g c = handed-over c.requires.before c.hand_line.ensures.counted c.in_ok-after.was
