-- `plates::reduce::clear_heads` meets its contract: row by row.
use Prim.Native.Nat.{◌≤◌}
use Rattle.plates.specs.Reducing.{ClearedFrom}
use Rattle.plates.proofs.reduce.clear_heads.Given as goal

abbrev pub invariant-loop-j : goal.invariant-loop-j
invariant-loop-j l = (l.j ≤ l.k) × ClearedFrom l.initial.table l.table l.k l.j
