-- `coding::sum_rows` meets its contract. The loop's invariant: the sum is that of the rows from j on.
use mathlib.Core.Path.{◌≡◌}
use Prim.Native.Nat.{◌≤◌}
use Rattle.coding.proofs.SummingRows.{sum_from}
use Rattle.coding.proofs.sum_rows.Given as goal

abbrev pub invariant-loop-j : goal.invariant-loop-j
invariant-loop-j l = (l.j ≤ l.k) × (l.sum ≡ sum_from l.rows l.k l.information l.j)
