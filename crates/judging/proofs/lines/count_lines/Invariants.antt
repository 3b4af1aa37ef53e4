-- `lines::count_lines` meets its contract. The loop's invariant: so many lines are read. The measure is what is left of the text.
use lib.ListN.{length}
use Prim.Native.Nat.{◌+◌, ◌-◌}
use Rattle.judging.proofs.Reading.{Reading}
use Rattle.judging.proofs.lines.count_lines.Given as goal

abbrev pub invariant-loop-at : goal.invariant-loop-at
invariant-loop-at l = Reading l.n l.text l.i l.at

abbrev pub decreases-loop-at : goal.decreases-loop-at
decreases-loop-at l = length l.text + 1 - l.at
