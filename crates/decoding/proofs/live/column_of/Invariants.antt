-- `decoding::live::column_of` meets its contract: the rows named are taken in from the last to the first.
use Rattle.decoding.proofs.PassedBack.{ColumnFrom}
use Rattle.decoding.proofs.live.column_of.Given as goal

abbrev pub invariant-loop-left : goal.invariant-loop-left
invariant-loop-left l = ColumnFrom l.rows l.active l.t l.left l.column

abbrev pub decreases-loop-left : goal.decreases-loop-left
decreases-loop-left l = l.left
