-- `tally::reference_of` meets its contract.
use Rattle.reports.specs.declared.tally.Standing.{Standing}
use Rattle.reports.specs.Tally.{reference_by}
use Rattle.std.proofs.Common.{ap, ◌∙◌}
use Rattle.reports.proofs.tally.reference_of.Goals as goal

pub returns-in-Ok : goal.returns-in-Ok
returns-in-Ok c =
    let a = c.args in
    rw c.in-Ok.is (c.reference_by.ensures ∙ ap (λ (s : Standing). reference_by s a.counter a.reference) c.stands.ensures)
