-- `exports::weighing::widest_entry` meets its contract. The loop's invariant: the largest entry up to t. The measure is what is left of n.
use mathlib.Core.Path.{◌≡◌}
use Prim.Native.Nat.{◌≤◌}
use Rattle.decoding.specs.Needs.{widest_entry}
use Rattle.exports.proofs.weighing.widest_entry.Given as goal

abbrev pub invariant-loop-t : goal.invariant-loop-t
invariant-loop-t l = (l.t ≤ l.n) × (l.most ≡ widest_entry l.profile l.t)
