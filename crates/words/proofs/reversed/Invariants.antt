-- `words::reversed` meets its contract.
use Rattle.words.proofs.Reversing.{Turning}
use Rattle.words.proofs.reversed.Given as goal

abbrev pub invariant-loop-i : goal.invariant-loop-i
invariant-loop-i l = Turning l.end l.word l.i l.turned
