-- `plates::widened` meets its contract: entry by entry.
use lib.ListN.{length}
use lib.Seq.{paste}
use mathlib.Core.Path.{◌≡◌}
use Prim.Native.Nat.{◌≤◌}
use Rattle.plates.proofs.widened.Given as goal

abbrev pub invariant-loop-t : goal.invariant-loop-t
invariant-loop-t l = (l.t ≤ 65) × (length l.wide ≡ 65) × (l.wide ≡ paste l.initial.wide 0 l.fn.profile l.t)
