-- `stages::refusal_line` meets its contract.
use Rattle.reports.proofs.WrittenSteps.{after_is}
use Rattle.reports.proofs.stages.refusal_line.Goals as goal

pub returns : goal.returns
returns c = after_is c.at_stage-after.ensures c.refused_line.ensures
