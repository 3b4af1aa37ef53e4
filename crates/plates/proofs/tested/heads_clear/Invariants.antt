-- `plates::tested::heads_clear` meets its contract. The loop's invariant: the rows that end before t are cleared, and the word has their heads.
use Rattle.plates.proofs.HeadsClear.{ClearedTo}
use Rattle.plates.proofs.tested.heads_clear.Given as goal

abbrev pub invariant-loop-t : goal.invariant-loop-t
invariant-loop-t l = ClearedTo l.rows l.t l.heads
