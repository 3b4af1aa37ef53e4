-- `steps::after_line` meets its contract.
use Rattle.reports.proofs.steps.after_line.Goals as goal

pub returns : goal.returns
returns c = rw c.kept_after-kept.ensures
