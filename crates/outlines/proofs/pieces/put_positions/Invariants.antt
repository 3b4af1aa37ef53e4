-- `pieces::put_positions` meets its contract.
use Rattle.outlines.proofs.Putting.{PositionsPut}
use Rattle.outlines.proofs.pieces.put_positions.Given as goal

abbrev pub invariant-loop-i : goal.invariant-loop-i
invariant-loop-i l = PositionsPut l.initial.room l.at l.word l.n l.i l.room l.next
