-- `plates::reduce::part_columns` meets its contract: column by column, from the right.
use Prim.Native.Nat.{◌≤◌}
use Rattle.plates.specs.Reducing.{PartedFrom}
use Rattle.plates.proofs.reduce.part_columns.Given as goal

abbrev pub invariant-loop-c : goal.invariant-loop-c
invariant-loop-c l = (l.c ≤ l.n) × PartedFrom l.initial.table l.table l.k l.c
