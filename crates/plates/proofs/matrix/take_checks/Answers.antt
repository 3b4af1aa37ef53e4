-- `plates::matrix::take_checks` meets its contract: one check after the other.
use mathlib.Core.Path.{refl}
use native.Mathlib.Omega.{arith}
use Rattle.plates.proofs.CheckTaken.{passing-end, passing-none, passing-on}
use Rattle.plates.proofs.matrix.take_checks.Goals as goal

pub loop-check-init : goal.loop-check-init
loop-check-init c = (omega arith, passing-none c.requires)

pub take_check-requires : goal.take_check-requires
take_check-requires c = c.loop-check.invariant.1.table

pub loop-check-preserved : goal.loop-check-preserved
loop-check-preserved c = (omega arith, passing-on refl c.loop-check.invariant.1 c.take_check.ensures)

pub returns : goal.returns
returns c = passing-end c.loop-check.invariant.0 c.loop-check-test.false c.loop-check.invariant.1
