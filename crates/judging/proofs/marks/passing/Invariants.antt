-- `marks::passing` meets its contract. The loop's invariant: so many of the places from j on pass.
use mathlib.Core.Bool.{Bool}
use mathlib.Core.Path.{◌≡◌}
use Prim.Native.Nat.{◌+◌, ◌<◌, ℕ, ◌≤◌}
use Rattle.judging.proofs.Counting.{Tallied}
use Rattle.judging.proofs.marks.passing.Given as goal

abbrev pub invariant-loop-j : goal.invariant-loop-j
invariant-loop-j g l =
    (l.j + l.c ≤ l.places)
    × ((P : ℕ → Bool) → ((j : ℕ) (b : Bool) → j < l.places → goal.F-post g l.test j b → b ≡ P j) → Tallied l.places P l.j l.c)
