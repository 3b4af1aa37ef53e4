-- `plates::matrix::unit_words` meets its contract: place by place.
use Prim.Native.Nat.{◌≤◌}
use Rattle.plates.specs.Filling.{Holds, unit}
use Rattle.plates.proofs.matrix.unit_words.Given as goal

abbrev pub invariant-loop-i : goal.invariant-loop-i
invariant-loop-i l = (l.i ≤ l.n) × Holds l.table unit l.i
