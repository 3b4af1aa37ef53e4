-- `columns::column_at` meets its contract. The invariant: the word is the column of the rows from j on.
use lib.ListN.{drop, length}
use mathlib.Core.Path.{◌≡◌}
use Prim.Native.Nat.{◌≤◌}
use Rattle.alists.specs.Lists.{column}
use Rattle.alists.proofs.columns.column_at.Given as goal

abbrev pub invariant-loop-j : goal.invariant-loop-j
invariant-loop-j l = (l.j ≤ length l.rows) × (l.word ≡ column (drop l.j l.rows) l.i)
