-- `coding::take_rows` meets its contract. The loop's invariant: the rows before j are taken off.
use Prim.Native.Nat.{◌≤◌}
use Rattle.coding.specs.TakingOff.{Read}
use Rattle.coding.proofs.take_rows.Given as goal

abbrev pub invariant-loop-j : goal.invariant-loop-j
invariant-loop-j l = (l.j ≤ l.k) × Read l.rows l.k l.word l.j l.reading
