-- `write_listing` meets its contract.
use Rattle.std.proofs.Common.{arith}
use Rattle.reports.specs.Remaining.{rooms}
use Rattle.reports.proofs.ListingReplies.{before-lines, few-blocks, listed, refused-8, refused-9, refused-11}
use Rattle.reports.proofs.write_listing.Goals as goal

pub returns-then-metrics-lt8192 : goal.returns-then-metrics-lt8192
returns-then-metrics-lt8192 c =
    refused-8 c.args.input.now (rooms c.args.metrics.now c.args.decisions.now) c.args.room.now c.if-metrics-lt8192.true

pub returns-then-decisions-lt4096 : goal.returns-then-decisions-lt4096
returns-then-decisions-lt4096 c =
    refused-9 c.args.input.now (rooms c.args.metrics.now c.args.decisions.now) c.args.room.now (omega (arith, c.if-metrics-lt8192.false)) c.if-decisions-lt4096.true

pub lines_of-lines-requires : goal.lines_of-lines-requires
lines_of-lines-requires c =
    few-blocks c.args.input.now (rooms c.args.metrics.now c.args.decisions.now) c.args.room.now (omega (arith, c.if-metrics-lt8192.false)) (omega (arith, c.if-decisions-lt4096.false)) _ c.open-report.ensures

pub returns-then-room-lines : goal.returns-then-room-lines
returns-then-room-lines c =
    refused-11 c.args.input.now (rooms c.args.metrics.now c.args.decisions.now) c.args.room.now (omega (arith, c.if-metrics-lt8192.false)) (omega (arith, c.if-decisions-lt4096.false)) _ c.open-report.ensures _ c.lines_of-lines.ensures c.if-room-lines.true

pub list_lines-size-requires : goal.list_lines-size-requires
list_lines-size-requires c =
    before-lines c.args.input.now (rooms c.args.metrics.now c.args.decisions.now) c.args.room.now (omega (arith, c.if-metrics-lt8192.false)) (omega (arith, c.if-decisions-lt4096.false)) _ c.open-report.ensures _ c.lines_of-lines.ensures (omega (arith, c.if-room-lines.false))

pub returns : goal.returns
returns c =
    listed c.args.input.now (rooms c.args.metrics.now c.args.decisions.now) c.args.room.now (omega (arith, c.if-metrics-lt8192.false)) (omega (arith, c.if-decisions-lt4096.false)) _ c.open-report.ensures _ c.lines_of-lines.ensures (omega (arith, c.if-room-lines.false)) _ _ _ c.list_lines-size.ensures
