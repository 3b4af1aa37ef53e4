-- `plates::tested::place_rows` meets its contract. The loop's invariant: the rows passed stand as a plate's do, and are in the table.
use Rattle.plates.proofs.RowsPlaced.{Seen}
use Rattle.plates.proofs.tested.place_rows.Given as goal

abbrev pub invariant-loop-i : goal.invariant-loop-i
invariant-loop-i l = Seen l.n l.rows l.i l.from l.by_last
