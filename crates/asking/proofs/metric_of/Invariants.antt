-- `asking::metric_of` meets its contract. The loop's invariant: the metric of the positions from i on.
use lib.ListN.{length}
use mathlib.Core.Path.{◌≡◌}
use Prim.Native.Nat.{◌≤◌}
use Rattle.asking.proofs.MetricSteps.{metric_from}
use Rattle.asking.proofs.metric_of.Given as goal

abbrev pub invariant-loop-i : goal.invariant-loop-i
invariant-loop-i l = (l.i ≤ length l.samples) × (l.metric ≡ metric_from l.samples l.word l.i)
