-- `states::target` meets its contract.
use lib.Pow.{pow_pos}
use native.Mathlib.Omega.{arith}
use Rattle.decoding.proofs.Targets.{half_le, without-le}
use Rattle.decoding.proofs.states.target.Goals as goal

pub nonzero_div-result : goal.nonzero_div-result
nonzero_div-result c = rw c.power-p.ensures (pow_pos c.args.place)

pub overflow_mul-result : goal.overflow_mul-result
overflow_mul-result c = omega (arith, half_le c.args.x c.power-p.result, c.ranges.x)

pub nonzero_rem-result : goal.nonzero_rem-result
nonzero_rem-result c = rw c.power-p.ensures (pow_pos c.args.place)

pub overflow_add-result : goal.overflow_add-result
overflow_add-result c = omega (arith, without-le c.args.x c.power-p.result, c.ranges.x)

pub returns : goal.returns
returns c = rw c.power-p.ensures
