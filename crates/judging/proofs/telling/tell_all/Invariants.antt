-- `telling::tell_all` meets its contract. The loop's invariant: the lines from i on are told.
use Prim.Native.Nat.{◌≤◌}
use Rattle.judging.specs.Room.{SameLines, ToldFrom, theirs}
use Rattle.judging.proofs.telling.tell_all.Given as goal

abbrev pub invariant-loop-i : goal.invariant-loop-i
invariant-loop-i l = (l.i ≤ l.lines) × SameLines l.lines l.initial.room l.room × ToldFrom (theirs l.n l.lines l.initial.room) l.rows l.mask l.n l.lines l.room l.i
