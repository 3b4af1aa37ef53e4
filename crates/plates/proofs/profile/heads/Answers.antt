-- `plates::profile::heads` meets its contract: row by row.
use native.Mathlib.Omega.{arith}
use Rattle.plates.proofs.LiveCounted.{marks-end, marks-none, marks-on}
use Rattle.plates.proofs.ProfilePassed.{first-there, heads-fresh}
use Rattle.plates.proofs.TableFilled.{shifted_one}
use Rattle.plates.proofs.profile.heads.Goals as goal

pub loop-j-init : goal.loop-j-init
loop-j-init c = (omega arith, marks-none)

pub overflow_shl-marks : goal.overflow_shl-marks
overflow_shl-marks c = (first-there c.requires c.loop-j-test.true c.first_one.ensures).1

pub loop-j-preserved : goal.loop-j-preserved
loop-j-preserved c =
    let there = first-there c.requires c.loop-j-test.true c.first_one.ensures in
    (omega arith, marks-on (heads-fresh c.requires c.loop-j-test.true) there.0 (shifted_one _ there.1) c.loop-j.invariant.1)

pub returns : goal.returns
returns c = marks-end c.loop-j.invariant.0 c.loop-j-test.false c.loop-j.invariant.1
