-- `blocks::is_silent` meets its contract.
use Rattle.reports.specs.Tally.{is_repeat}
use Rattle.std.proofs.Common.{ap, ◌∙◌}
use Rattle.reports.proofs.blocks.is_silent.Goals as goal

pub returns-then-report : goal.returns-then-report
returns-then-report c = rw c.if-report.true (c.is_repeat.ensures ∙ ap is_repeat c.stands.ensures)

pub returns-else-report : goal.returns-else-report
returns-else-report c = rw c.if-report.false
