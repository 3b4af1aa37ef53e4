-- `body::read_rows` meets its contract.
use lib.ListN.{length}
use Prim.Native.Nat.{◌-◌}
use Rattle.sheets.proofs.RowLines.{Rowing}
use Rattle.sheets.proofs.body.read_rows.Given as goal

abbrev pub invariant-loop-at : goal.invariant-loop-at
invariant-loop-at l = Rowing l.n l.order l.input l.from l.initial.table l.table l.at l.rows

abbrev pub decreases-loop-at : goal.decreases-loop-at
decreases-loop-at l = length l.input - l.at
