-- `plates::profile::first_wide` meets its contract: a search.
use native.Mathlib.Omega.{arith}
use Rattle.plates.proofs.Searching.{search-found, search-on, search-over, search-start}
use Rattle.plates.proofs.profile.first_wide.Goals as goal

pub loop-t-init : goal.loop-t-init
loop-t-init c = search-start (omega arith)

pub returns-then-profile-t-gt12 : goal.returns-then-profile-t-gt12
returns-then-profile-t-gt12 c = search-found c.loop-t.invariant (omega arith) c.if-profile-t-gt12.true

pub loop-t-preserved : goal.loop-t-preserved
loop-t-preserved c = search-on c.loop-t.invariant (omega arith) (λ h. omega arith)

pub returns : goal.returns
returns c = search-over c.loop-t.invariant (omega arith)
