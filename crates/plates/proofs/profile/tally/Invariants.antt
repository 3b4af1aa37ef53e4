-- `plates::profile::tally` meets its contract: depth by depth.
use Prim.Native.Nat.{◌≤◌}
use Rattle.plates.proofs.ProfilePassed.{Passed}
use Rattle.plates.proofs.profile.tally.Given as goal

abbrev pub invariant-loop-t : goal.invariant-loop-t
invariant-loop-t l = (l.t ≤ l.n) × Passed l.heads l.ends l.profile l.live l.t
