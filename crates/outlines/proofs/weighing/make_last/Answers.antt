-- `weighing::make_last` meets its contract.
use Rattle.outlines.specs.WeightLines.{last_line}
use Rattle.outlines.proofs.weighing.make_last.Goals as goal

pub returns-in-Some : goal.returns-in-Some
unfolding last_line
returns-in-Some c = rw c.in-Some.is c.write_least.ensures

pub returns-in-None : goal.returns-in-None
unfolding last_line
returns-in-None c = rw c.in-None.is c.write_no_least.ensures
