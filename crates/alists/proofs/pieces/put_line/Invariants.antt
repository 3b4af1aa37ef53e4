-- `pieces::put_line` meets its contract: the numbers from i on are still to be put.
use lib.ListN.{drop, length}
use Prim.Native.Nat.{◌≤◌}
use Rattle.alists.specs.Text.{following}
use Rattle.alists.proofs.Putting.{Going}
use Rattle.alists.proofs.pieces.put_line.Given as goal

abbrev pub invariant-loop-i : goal.invariant-loop-i
invariant-loop-i l = (1 ≤ l.i) × (l.i ≤ length l.numbers)
    × Going l.room l.next (following (drop l.i l.numbers)) l.initial.room l.initial.next (following (drop 1 l.numbers))
