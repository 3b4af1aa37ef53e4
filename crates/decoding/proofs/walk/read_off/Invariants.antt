-- `decoding::walk::read_off` meets its contract. The loop's invariant: the walk has come to depth t.
use lib.ListN.{take}
use Prim.Native.Nat.{◌≤◌}
use Rattle.decoding.specs.Sweeping.{Walked}
use Rattle.decoding.specs.Turning.{turned_by}
use Rattle.decoding.proofs.walk.read_off.Given as goal

abbrev pub invariant-loop-t : goal.invariant-loop-t
invariant-loop-t l = (l.t ≤ l.sizes.n) × Walked (take l.sizes.k l.rows) (turned_by l.sizes.rest l.samples) l.t l.at
