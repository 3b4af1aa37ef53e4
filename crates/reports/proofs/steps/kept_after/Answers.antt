-- `steps::kept_after` meets its contract.
use Rattle.reports.proofs.steps.kept_after.Goals as goal

pub returns-then-heard : goal.returns-then-heard
returns-then-heard c = rw (c.if-heard.true, c.raise-tally.ensures, c.share.ensures, c.reference_of-reference.ensures)

pub returns : goal.returns
returns c = rw c.if-heard.false
