-- `tally::share` meets its contract.
use Rattle.reports.proofs.tally.share.Goals as goal

pub returns-in-Ok : goal.returns-in-Ok
returns-in-Ok c =
    let a = c.args in
    rw c.in-Ok.is (rw c.stands.ensures at c.found_share.ensures)
