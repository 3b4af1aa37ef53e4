-- `walking::walk` meets its contract. The loop's invariant: the ways from the two numbers differ, and their earliest difference makes the whole.
use Rattle.judging.proofs.WalkSteps.{Walked}
use Rattle.judging.specs.Ours.{ours}
use Rattle.judging.specs.Room.{theirs}
use Rattle.judging.proofs.walking.walk.Given as goal

abbrev pub invariant-loop-t : goal.invariant-loop-t
invariant-loop-t l = Walked (theirs l.n l.lines l.room) (ours l.rows l.mask) l.n l.t l.u l.y l.word
