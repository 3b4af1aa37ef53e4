-- `plates::reduce::clear_rows` meets its contract: row after row.
use Prim.Native.Nat.{◌≤◌}
use Rattle.plates.specs.Reducing.{Covers}
use Rattle.plates.specs.Working.{Gained}
use Rattle.plates.proofs.reduce.clear_rows.Given as goal

abbrev pub invariant-loop-i : goal.invariant-loop-i
invariant-loop-i l = (l.i ≤ l.j) × Gained l.initial.table l.table (Covers l.first l.last) 0 l.i l.j
