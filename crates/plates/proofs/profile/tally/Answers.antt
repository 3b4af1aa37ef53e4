-- `plates::profile::tally` meets its contract: depth by depth.
use native.Mathlib.Omega.{arith}
use Rattle.plates.proofs.ProfilePassed.{next_fits, next-ready, passed-end, passed_on, passed_start}
use Rattle.plates.proofs.profile.tally.Goals as goal

pub loop-t-init : goal.loop-t-init
loop-t-init c = (omega arith, passed_start c.requires.profile_value)

pub next_live-live-requires : goal.next_live-live-requires
next_live-live-requires c =
    let both = next-ready c.requires.balanced c.loop-t-test.true c.loop-t.invariant.1 in
    record {
      live_bound = both.0;
      t_bound = both.1;
    }

pub overflow_cast-profile : goal.overflow_cast-profile
overflow_cast-profile c =
    record { fits = omega (arith, next_fits c.requires.balanced c.loop-t-test.true c.loop-t.invariant.1 c.next_live-live.ensures) }

pub bounds-profile-t : goal.bounds-profile-t
bounds-profile-t c = omega (arith, c.requires.balanced.short)

pub loop-t-preserved : goal.loop-t-preserved
loop-t-preserved c =
    (omega arith, passed_on c.requires.balanced.short c.loop-t-test.true c.loop-t.invariant.1 c.next_live-live.ensures)

pub returns : goal.returns
returns c = passed-end c.loop-t.invariant.0 c.loop-t-test.false c.loop-t.invariant.1
