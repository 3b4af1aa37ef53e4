-- `plates::reduce::last_ending` meets its contract: a search from the end.
use Rattle.plates.proofs.Searching.{NoneFrom}
use Rattle.plates.specs.Working.{EndsAt}
use Rattle.plates.proofs.reduce.last_ending.Given as goal

abbrev pub invariant-loop-i : goal.invariant-loop-i
invariant-loop-i l = NoneFrom l.table (EndsAt l.c) l.k l.i
