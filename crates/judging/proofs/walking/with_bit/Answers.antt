-- `walking::with_bit` meets its contract.
use native.Mathlib.Omega.{arith}
use lib.Pow.{pow_mono}
use Rattle.judging.proofs.WalkSteps.{bit-left, bit-set}
use Rattle.judging.proofs.walking.with_bit.Goals as goal

pub returns-then-bit-eq0 : goal.returns-then-bit-eq0
returns-then-bit-eq0 c = bit-left c.args.word c.args.t c.args.bit c.requires.1 c.if-bit-eq0.true

pub overflow_add-result : goal.overflow_add-result
overflow_add-result c =
    record { fits = omega (arith, (c.weight_of.ensures.below c.requires.0), c.requires.1, (bit-set c.args.word c.args.t c.args.bit c.weight_of.result c.requires.1 c.requires.2 c.if-bit-eq0.false (c.weight_of.ensures.below c.requires.0)).1, pow_mono c.requires.0) }

pub returns : goal.returns
returns c =
    bit-set c.args.word c.args.t c.args.bit c.weight_of.result c.requires.1 c.requires.2 c.if-bit-eq0.false (c.weight_of.ensures.below c.requires.0)
