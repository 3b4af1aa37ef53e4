-- `stages::close_line` meets its contract.
use Rattle.reports.proofs.WrittenSteps.{close-step}
use Rattle.std.proofs.Common.{true, false}
use Rattle.reports.proofs.stages.close_line.Goals as goal

pub returns-then-report : goal.returns-then-report
returns-then-report c = close-step c.args.room.now c.args.report true c.if-report.true c.tally_line.ensures

pub returns : goal.returns
returns c = close-step c.args.room.now c.args.report false c.if-report.false c.end_line.ensures
