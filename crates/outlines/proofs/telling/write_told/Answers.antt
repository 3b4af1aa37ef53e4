-- `telling::write_told` meets its contract.
use Rattle.outlines.proofs.Comparisons.{told-too-long, told-written}
use Rattle.outlines.proofs.telling.write_told.Goals as goal

pub returns-then-room-size : goal.returns-then-room-size
returns-then-room-size c = search told-too-long

pub returns : goal.returns
returns c = search told-written
