-- `plates::matrix::load_rows` meets its contract: place by place.
use mathlib.Core.Path.{refl}
use native.Mathlib.Omega.{arith}
use Rattle.plates.proofs.TableFilled.{holds-end, holds_on, holds-start}
use Rattle.plates.proofs.matrix.load_rows.Goals as goal

pub loop-i-init : goal.loop-i-init
loop-i-init c = (omega arith, holds-start c.requires.table_value)

pub loop-i-preserved : goal.loop-i-preserved
loop-i-preserved c = (omega arith, holds_on (omega arith) refl c.loop-i.invariant.1)

pub returns : goal.returns
returns c = holds-end c.loop-i.invariant.0 c.loop-i-test.false c.loop-i.invariant.1
