-- `strips::pairs` meets its contract. The first i metrics are gathered.
use Prim.Native.Nat.{◌-◌}
use Rattle.decoding.proofs.Gathering.{Fours}
use Rattle.decoding.specs.Strips.{paired}
use Rattle.decoding.proofs.strips.pairs.Given as goal

abbrev pub invariant-loop-i : goal.invariant-loop-i
invariant-loop-i l = Fours l.metrics (paired l.at) l.i l.into

abbrev pub decreases-loop-i : goal.decreases-loop-i
decreases-loop-i l = 32 - l.i
