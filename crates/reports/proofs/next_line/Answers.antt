-- `next_line` meets its contract.
use Rattle.reports.proofs.WrittenSteps.{at-its-stage, only-writes}
use Rattle.std.proofs.Common.{refl}
use Rattle.reports.proofs.next_line.Goals as goal

pub returns-in-Refused : goal.returns-in-Refused
returns-in-Refused c = at-its-stage _ c.in-Refused.is (only-writes c.refusal_line.ensures)

pub returns-in-PlateLine : goal.returns-in-PlateLine
returns-in-PlateLine c = at-its-stage _ c.in-PlateLine.is (only-writes c.plate_line.ensures)

pub returns-in-ProfileLine : goal.returns-in-ProfileLine
returns-in-ProfileLine c = at-its-stage _ c.in-ProfileLine.is (only-writes c.profile_line.ensures)

pub returns-in-BlockLines : goal.returns-in-BlockLines
returns-in-BlockLines c = at-its-stage _ c.in-BlockLines.is c.block_line.ensures

pub returns-in-EndLine : goal.returns-in-EndLine
returns-in-EndLine c = at-its-stage _ c.in-EndLine.is (only-writes c.end_line.ensures)

pub returns-in-Done : goal.returns-in-Done
returns-in-Done c = at-its-stage _ c.in-Done.is (record { is = refl; same = refl })
