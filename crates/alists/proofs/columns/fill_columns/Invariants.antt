-- `columns::fill_columns` meets its contract: the columns from i on are still to be put.
use lib.Seq.{sets}
use mathlib.Core.Path.{◌≡◌}
use Prim.Native.Nat.{◌-◌, ◌≤◌}
use Rattle.alists.specs.Lists.{columns_from}
use Rattle.alists.proofs.columns.fill_columns.Given as goal

abbrev pub invariant-loop-i : goal.invariant-loop-i
invariant-loop-i l = (l.i ≤ l.n) × (sets l.table l.i (columns_from l.rows l.i (l.n - l.i)) ≡ sets l.initial.table 0 (columns_from l.rows 0 l.n))
