-- `nothing_kept` meets its contract.
use Rattle.reports.proofs.nothing_kept.Goals as goal

pub returns : goal.returns
returns c = rw c.none.ensures
