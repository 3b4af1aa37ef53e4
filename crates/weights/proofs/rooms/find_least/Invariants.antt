-- `weights::rooms::find_least` meets its contract. The loop's invariant: no count before w is above zero.
use Prim.Native.Nat.{◌≤◌}
use Rattle.weights.proofs.RoomSteps.{NoneBefore}
use Rattle.weights.proofs.rooms.find_least.Given as goal

abbrev pub invariant-loop-w : goal.invariant-loop-w
invariant-loop-w l = (1 ≤ l.w) × (l.w ≤ 65) × NoneBefore l.counts l.w
