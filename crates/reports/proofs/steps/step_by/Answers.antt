-- `steps::step_by` meets its contract.
use Rattle.reports.proofs.steps.step_by.Goals as goal

pub returns-in-Ok : goal.returns-in-Ok
returns-in-Ok c = rw c.in-Ok.is

pub returns-in-Err : goal.returns-in-Err
returns-in-Err c = rw c.in-Err.is
