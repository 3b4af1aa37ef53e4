-- `plates::tested::zero_from` meets its contract. The loop's invariant: the word has the ones of the words passed.
use Rattle.plates.proofs.ZerosTested.{OnesTo}
use Rattle.plates.proofs.tested.zero_from.Given as goal

abbrev pub invariant-loop-i : goal.invariant-loop-i
invariant-loop-i l = OnesTo l.from l.i l.words l.ones
