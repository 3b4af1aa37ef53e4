-- `exports::flat::put_profile` meets its contract: cell by cell.
use lib.ListN.{length}
use mathlib.Core.Path.{◌≡◌}
use lib.Seq.{paste}
use Prim.Native.Nat.{◌≤◌}
use Rattle.exports.proofs.flat.put_profile.Given as goal

abbrev pub invariant-loop-t : goal.invariant-loop-t
invariant-loop-t l = (l.t ≤ 65) × (length l.words ≡ length l.initial.words) × (l.words ≡ paste l.initial.words 66 l.profile l.t)
