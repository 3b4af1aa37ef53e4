-- `comparing::earlier_of` meets its contract.
use Rattle.outlines.proofs.Settling.{first-earlier, second-earlier}
use Rattle.outlines.proofs.comparing.earlier_of.Goals as goal

pub returns-then-comes_first : goal.returns-then-comes_first
returns-then-comes_first c = search first-earlier

pub returns : goal.returns
returns c = search second-earlier
