-- `stages::end_line` meets its contract.
use Rattle.reports.proofs.WrittenSteps.{writes-step}
use Rattle.reports.proofs.stages.end_line.Goals as goal

pub returns : goal.returns
returns c = writes-step c.write_end.result c.at_stage-after.ensures c.write_end.ensures c.step_by.ensures
