-- `plates::tested::zero_from` meets its contract. The loop's invariant: the word has the ones of the words passed.
use native.Mathlib.Omega.{arith}
use Rattle.plates.proofs.ZerosTested.{ones-all, ones-more, ones_none}
use Rattle.plates.proofs.tested.zero_from.Goals as goal

pub loop-i-init : goal.loop-i-init
loop-i-init c = ones_none _ _

pub loop-i-preserved : goal.loop-i-preserved
loop-i-preserved c = ones-more _ _ _ _ c.loop-i.invariant

pub returns : goal.returns
returns c = ones-all _ _ _ _ c.loop-i.invariant (omega (arith, c.loop-i-test.false))
