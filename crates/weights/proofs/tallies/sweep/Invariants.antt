-- `weights::tallies::sweep` meets its contract. The loop's invariant: the numbers of depth t stand in the room.
use Prim.Native.Nat.{◌≤◌}
use Rattle.weights.specs.Tallying.{Swept}
use Rattle.weights.proofs.tallies.sweep.Given as goal

abbrev pub invariant-loop-t : goal.invariant-loop-t
invariant-loop-t l = (l.t ≤ l.n) × Swept l.rows l.n l.half l.t l.working l.from
