-- `rooms::fill` meets its contract. The loop's invariant: the branches of the lines read stand in the room. The measure is what is left of the text.
use lib.ListN.{length}
use mathlib.Core.Path.{◌≡◌}
use Prim.Native.Nat.{◌+◌, ◌-◌}
use Rattle.sheets.specs.Listed.{entries}
use Rattle.judging.specs.Room.{Stored}
use Rattle.judging.proofs.Reading.{Reading}
use Rattle.judging.proofs.rooms.fill.Given as goal

abbrev pub invariant-loop-at : goal.invariant-loop-at
invariant-loop-at l = Reading l.n l.text l.i l.at × (length l.room ≡ length l.initial.room) × Stored (entries l.n l.text) l.i l.room

abbrev pub decreases-loop-at : goal.decreases-loop-at
decreases-loop-at l = length l.text + 1 - l.at
