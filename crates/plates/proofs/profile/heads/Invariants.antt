-- `plates::profile::heads` meets its contract: row by row.
use Prim.Native.Nat.{◌≤◌}
use Rattle.plates.specs.Profiling.{Marks}
use Rattle.words.specs.Ends.{firsts}
use Rattle.plates.proofs.profile.heads.Given as goal

abbrev pub invariant-loop-j : goal.invariant-loop-j
invariant-loop-j l = (l.j ≤ l.k) × Marks (firsts l.table) l.j l.marks
