-- `put_sheet` meets its contract.
use Rattle.outlines.proofs.Fitting.{sheet-too-long, sheet-written}
use Rattle.outlines.proofs.put_sheet.Goals as goal

pub returns-then-room-size : goal.returns-then-room-size
returns-then-room-size c = search sheet-too-long

pub returns : goal.returns
returns c = search sheet-written
