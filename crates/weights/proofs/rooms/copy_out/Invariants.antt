-- `weights::rooms::copy_out` meets its contract. The loop's invariant: the counts before w are copied.
use Prim.Native.Nat.{◌≤◌}
use Rattle.weights.specs.Rooms.{Copied}
use Rattle.weights.proofs.rooms.copy_out.Given as goal

abbrev pub invariant-loop-w : goal.invariant-loop-w
invariant-loop-w l = (l.w ≤ 65) × Copied l.working l.from l.initial.counts l.w l.counts
