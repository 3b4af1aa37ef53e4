-- `decoding::samples::first_over` meets its contract. The loop's invariant: the samples before i are within the limit.
use lib.IntN.{nat_abs, pos}
use lib.ListN.{get_or, length}
use Prim.Native.Nat.{ℕ, ◌<◌, ◌≤◌}
use Rattle.decoding.specs.Metric.{limit}
use Rattle.decoding.proofs.samples.first_over.Given as goal

abbrev pub invariant-loop-i : goal.invariant-loop-i
invariant-loop-i l = (l.i ≤ length l.samples) × ((j : ℕ) → j < l.i → nat_abs (get_or l.samples j (pos 0)) ≤ limit)
