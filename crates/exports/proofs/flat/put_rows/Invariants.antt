-- `exports::flat::put_rows` meets its contract: cell by cell.
use lib.ListN.{length}
use mathlib.Core.Path.{◌≡◌}
use lib.Seq.{paste}
use Prim.Native.Nat.{◌≤◌}
use Rattle.exports.proofs.flat.put_rows.Given as goal

abbrev pub invariant-loop-j : goal.invariant-loop-j
invariant-loop-j l = (l.j ≤ 64) × (length l.words ≡ length l.initial.words) × (l.words ≡ paste l.initial.words 2 l.rows l.j)
