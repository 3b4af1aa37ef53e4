-- `blocks::samples_line` meets its contract.
use Rattle.reports.proofs.PrintedWords.{printable}
use Rattle.reports.proofs.BlockSteps.{long-room, short-room}
use Rattle.std.proofs.Common.{sym, arith, length-take-le}
use Rattle.reports.proofs.blocks.samples_line.Goals as goal

pub returns-then-room-lt256 : goal.returns-then-room-lt256
returns-then-room-lt256 c = short-room c.if-room-lt256.true c.refused_step.ensures

pub slice_bounds-decode-end : goal.slice_bounds-decode-end
slice_bounds-decode-end c = sym (length-take-le _ _ (omega (arith, c.used-taken.ensures.upper_bound, c.requires)))

pub slice_bounds-after_line-end : goal.slice_bounds-after_line-end
slice_bounds-after_line-end c = sym (length-take-le _ _ (omega (arith, c.used-taken.ensures.upper_bound, c.requires)))

pub after_line-after-requires : goal.after_line-after-requires
after_line-after-requires c =
    let u = c.used-taken in
    omega (arith, u.ensures.upper_bound, length-take-le u.result c.args.samples.now (omega (arith, u.ensures.upper_bound, c.requires)))

pub decoded_line-requires : goal.decoded_line-requires
decoded_line-requires c =
    let d = c.decode-decoded in
    printable c.args.report.plate _ _ _ _ _ d.result d.ensures

pub returns : goal.returns
returns c =
    rw c.used-taken.ensures.value at
    (long-room c.decode-decoded.result c.if-room-lt256.false c.after_line-after.ensures c.decode-decoded.ensures c.decoded_line.ensures)
