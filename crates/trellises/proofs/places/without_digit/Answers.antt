-- `trellises::places::without_digit` meets its contract.
use lib.Pow.{pow_pos}
use mathlib.Core.Path.{ap}
use native.Mathlib.Omega.{arith}
use Prim.Native.Nat.{ℕ, ◌%◌, ◌*◌, ◌+◌, ◌/◌}
use Rattle.trellises.proofs.Digits.{without-at-most, without-beyond}
use Rattle.trellises.proofs.places.without_digit.Goals as goal

pub returns-then-place-ge64 : goal.returns-then-place-ge64
returns-then-place-ge64 c = without-beyond c.args.place c.args.number c.if-place-ge64.true c.ranges.number.fits

pub nonzero_div-result : goal.nonzero_div-result
nonzero_div-result c = omega (arith, (c.weight_of-weight.ensures.below (omega arith)), pow_pos c.args.place)

pub overflow_mul-result : goal.overflow_mul-result
overflow_mul-result c =
    record { fits = omega (arith, without-at-most c.weight_of-weight.result c.args.number, c.ranges.number.fits) }

pub nonzero_rem-result : goal.nonzero_rem-result
nonzero_rem-result c = omega (arith, (c.weight_of-weight.ensures.below (omega arith)), pow_pos c.args.place)

pub overflow_add-result : goal.overflow_add-result
overflow_add-result c =
    record { fits = omega (arith, without-at-most c.weight_of-weight.result c.args.number, c.ranges.number.fits) }

pub returns : goal.returns
returns c = let x = c.args.number in ap (λ (w : ℕ). x / w / 2 * w + x % w) (c.weight_of-weight.ensures.below (omega arith))
