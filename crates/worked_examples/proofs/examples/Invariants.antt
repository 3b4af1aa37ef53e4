-- `examples` is safe.
use lib.ListN.{length}
use Prim.Native.Nat.{◌≤◌}
use Rattle.worked_examples.proofs.examples.Given as goal

abbrev pub invariant-loop : goal.invariant-loop
invariant-loop g l = l.at ≤ length l.text
