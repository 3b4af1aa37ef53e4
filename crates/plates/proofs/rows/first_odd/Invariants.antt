-- `plates::rows::first_odd` meets its contract: a search.
use Rattle.plates.proofs.Searching.{NotYet}
use Rattle.plates.specs.Working.{Odd}
use Rattle.plates.proofs.rows.first_odd.Given as goal

abbrev pub invariant-loop-i : goal.invariant-loop-i
invariant-loop-i l = NotYet l.table (Odd l.check) l.from l.to l.i
