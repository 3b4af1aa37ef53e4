-- `stages::plate_line` meets its contract.
use Rattle.reports.proofs.WrittenSteps.{writes-step}
use Rattle.reports.proofs.stages.plate_line.Goals as goal

pub returns : goal.returns
returns c = writes-step c.write_plate.result c.at_stage-after.ensures c.write_plate.ensures c.step_by.ensures
