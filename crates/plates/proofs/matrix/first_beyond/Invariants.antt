-- `plates::matrix::first_beyond` meets its contract: a search.
use lib.ListN.{length}
use Rattle.plates.proofs.Searching.{NotYet}
use Rattle.plates.specs.Working.{Beyond}
use Rattle.plates.proofs.matrix.first_beyond.Given as goal

abbrev pub invariant-loop-i : goal.invariant-loop-i
invariant-loop-i l = NotYet l.rows (Beyond l.n) 0 (length l.rows) l.i
