-- `plates::rows::even_rows` meets its contract: row after row.
use Prim.Native.Nat.{◌+◌, ◌≤◌}
use Rattle.plates.specs.Working.{Gained, Odd}
use Rattle.plates.proofs.rows.even_rows.Given as goal

abbrev pub invariant-loop-i : goal.invariant-loop-i
invariant-loop-i l = (l.odd + 1 ≤ l.i) × (l.i ≤ l.to) × Gained l.initial.table l.table (Odd l.check) (l.odd + 1) l.i l.odd
