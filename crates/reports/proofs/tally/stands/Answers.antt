-- `tally::stands` meets its contract.
use Rattle.reports.specs.Tally.{standing_by}
use Rattle.std.proofs.Common.{ap, ◌∙◌}
use Rattle.reports.proofs.tally.stands.Goals as goal

pub returns-in-Some : goal.returns-in-Some
returns-in-Some c = rw c.in-Some.is (c.standing_by.ensures ∙ ap standing_by c.advance.ensures)
