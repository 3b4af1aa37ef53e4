-- `stages::profile_line` meets its contract.
use Rattle.reports.proofs.WrittenSteps.{writes-step}
use Rattle.reports.proofs.stages.profile_line.Goals as goal

pub returns : goal.returns
returns c =
    writes-step c.write_profile.result c.at_stage-after.ensures c.write_profile.ensures c.step_by.ensures
