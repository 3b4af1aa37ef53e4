-- `lines::clashes_among` meets its contract. The loop's invariant: what is left of the search says what the whole says.
use Rattle.judging.proofs.Reading.{Clashing}
use Rattle.judging.proofs.lines.clashes_among.Given as goal

abbrev pub invariant-loop-left : goal.invariant-loop-left
invariant-loop-left l = Clashing l.n l.text l.first l.branch l.at l._left
