-- `pieces::put` meets its contract.
use Rattle.outlines.proofs.Putting.{BytesPut}
use Rattle.outlines.proofs.pieces.put.Given as goal

abbrev pub invariant-loop-byte : goal.invariant-loop-byte
invariant-loop-byte l = BytesPut l.initial.room l.at l.text l.byte-index l.room l.next
