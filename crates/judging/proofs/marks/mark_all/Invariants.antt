-- `marks::mark_all` meets its contract. The loop's invariant: the first i lines are marked.
use lib.ListN.{length}
use mathlib.Core.Path.{◌≡◌}
use Prim.Native.Nat.{◌≤◌}
use Rattle.judging.specs.Marks.{AllMarked}
use Rattle.judging.proofs.marks.mark_all.Given as goal

abbrev pub invariant-loop-i : goal.invariant-loop-i
invariant-loop-i l = (l.i ≤ l.lines) × (length l.room ≡ length l.initial.room) × AllMarked l.lines l.initial.room l.room l.i
