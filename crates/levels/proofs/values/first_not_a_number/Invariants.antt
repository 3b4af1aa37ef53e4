-- `levels::values::first_not_a_number` meets its contract. The loop's invariant: the samples before i are erased or numbers.
use lib.ListN.{length}
use Prim.Native.Nat.{◌≤◌}
use Rattle.levels.specs.Testing.{NumbersTo}
use Rattle.levels.proofs.values.first_not_a_number.Given as goal

abbrev pub invariant-loop-i : goal.invariant-loop-i
invariant-loop-i l = (l.i ≤ length l.values) × NumbersTo l.values l.erased l.i
