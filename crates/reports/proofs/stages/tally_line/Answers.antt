-- `stages::tally_line` meets its contract.
use Rattle.reports.proofs.WrittenSteps.{writes-step}
use Rattle.reports.proofs.stages.tally_line.Goals as goal

pub returns : goal.returns
returns c = writes-step c.write_tally.result c.at_stage-after.ensures c.write_tally.ensures c.step_by.ensures
