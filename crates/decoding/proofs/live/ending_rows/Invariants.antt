-- `decoding::live::ending_rows` meets its contract: the rows are noted one after the other.
use lib.ListN.{take}
use Prim.Native.Nat.{◌≤◌}
use Rattle.decoding.proofs.EndsFound.{Noted}
use Rattle.decoding.proofs.live.ending_rows.Given as goal

abbrev pub invariant-loop-j : goal.invariant-loop-j
invariant-loop-j l = (l.j ≤ l.k) × Noted (take l.k l.rows) l.j l.ends
