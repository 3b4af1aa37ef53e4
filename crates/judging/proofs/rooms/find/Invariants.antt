-- `rooms::find` meets its contract. The loop's invariant: no line before j has that start.
use Prim.Native.Nat.{◌≤◌}
use Rattle.judging.specs.Room.{key_test}
use Rattle.judging.proofs.Reading.{Searching}
use Rattle.judging.proofs.rooms.find.Given as goal

abbrev pub invariant-loop-j : goal.invariant-loop-j
invariant-loop-j l = (l.j ≤ l.lines) × Searching l.lines (key_test l.room l.key) l.j
