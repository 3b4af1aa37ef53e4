-- `refused` meets its contract.
use Rattle.reports.proofs.refused.Goals as goal

pub returns : goal.returns
returns c = rw (c.nothing_kept.ensures, c.zero.ensures)
