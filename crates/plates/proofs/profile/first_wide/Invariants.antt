-- `plates::profile::first_wide` meets its contract: a search.
use Prim.Native.Nat.{◌+◌}
use Rattle.plates.proofs.Searching.{NotYet}
use Rattle.plates.specs.Working.{OverTwelve}
use Rattle.plates.proofs.profile.first_wide.Given as goal

abbrev pub invariant-loop-t : goal.invariant-loop-t
invariant-loop-t l = NotYet l.profile OverTwelve 0 (l.n + 1) l.t
