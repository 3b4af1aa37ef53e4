-- `listings::pieces::prepend_number` meets its contract: the digits put so far stand to the right of those of `rest`.
use Rattle.listings.proofs.Digits.{Digits}
use Rattle.listings.proofs.pieces.prepend_number.Given as goal

abbrev pub invariant-loop-rest : goal.invariant-loop-rest
invariant-loop-rest l = Digits l.initial.line l.end l.value l.line l.at l.rest

abbrev pub decreases-loop-rest : goal.decreases-loop-rest
decreases-loop-rest l = l.rest
