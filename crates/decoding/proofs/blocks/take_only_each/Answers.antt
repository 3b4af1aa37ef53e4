-- `blocks::take_only_each` meets its contract. The first i states are done.
use native.Mathlib.Omega.{arith}
use mathlib.Core.Path.{◌≡◌}
use Rattle.decoding.proofs.Storing.{lone-fits, lones-more, lones-none}
use Rattle.decoding.proofs.blocks.take_only_each.Goals as goal

pub loop-i-init : goal.loop-i-init
loop-i-init c = (omega arith, search lones-none)

pub take_only-raised-requires : goal.take_only-raised-requires
take_only-raised-requires c = search lone-fits

pub loop-i-preserved : goal.loop-i-preserved
loop-i-preserved c = (omega (arith, c.loop-i-test.true), search lones-more)

pub shape_of-metrics : goal.shape_of-metrics
shape_of-metrics c = c.loop-i.invariant.1.stored.size

pub returns : goal.returns
returns c =
    let e : c.loop-i.i ≡ 32 = omega (arith, c.loop-i-test.false, c.loop-i.invariant.0) in rw e at c.loop-i.invariant.1
