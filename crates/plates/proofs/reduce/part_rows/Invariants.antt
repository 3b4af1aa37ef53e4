-- `plates::reduce::part_rows` meets its contract: row after row.
use Prim.Native.Nat.{◌≤◌}
use Rattle.plates.specs.Working.{EndsAt, Gained}
use Rattle.plates.proofs.reduce.part_rows.Given as goal

abbrev pub invariant-loop-i : goal.invariant-loop-i
invariant-loop-i l = (l.i ≤ l.p) × Gained l.initial.table l.table (EndsAt l.c) 0 l.i l.p
