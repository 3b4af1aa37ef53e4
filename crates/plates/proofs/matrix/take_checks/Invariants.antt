-- `plates::matrix::take_checks` meets its contract: one check after the other.
use lib.ListN.{length}
use Prim.Native.Nat.{◌≤◌}
use Rattle.plates.specs.Filling.{Passing}
use Rattle.plates.proofs.matrix.take_checks.Given as goal

abbrev pub invariant-loop-check : goal.invariant-loop-check
invariant-loop-check l = (l.check-index ≤ length l.checks) × Passing l.initial.table l.table l.n l.checks l.check-index
