-- `plates::profile::ends` meets its contract: row by row.
use Prim.Native.Nat.{◌≤◌}
use Rattle.plates.specs.Profiling.{Marks}
use Rattle.words.specs.Ends.{lasts}
use Rattle.plates.proofs.profile.ends.Given as goal

abbrev pub invariant-loop-j : goal.invariant-loop-j
invariant-loop-j l = (l.j ≤ l.k) × Marks (lasts l.table) l.j l.marks
