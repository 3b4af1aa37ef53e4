-- `asking::with_sample` meets its contract.
use lib.IntN.{pos, ℤ, ◌+ℤ◌}
use mathlib.Core.Path.{◌∙◌, ◌≡◌, ap, refl, sym}
use mir.Facts.{to_z-of_z, sfits_widen}
use mir.Syntax.{w16, w32}
use mir.Val.{SFits, of_z, to_z}
use native.Mathlib.Omega.{arith}
use Prim.Native.Nat.{ℕ}
use Rattle.decoding.specs.Taking.{signed}
use Rattle.decoding.proofs.Integers.{difference-fits, difference_is, sum_fits, sum_is}
use Rattle.decoding.proofs.Preference.{minus, sign-size}
use Rattle.asking.proofs.with_sample.Goals as goal

-- a sample is a number of more bits
gain-is : {y : ℤ} → SFits w16 y → to_z w32 (of_z w32 (to_z w16 (of_z w16 y))) ≡ y
gain-is f = rw (to_z-of_z f) (to_z-of_z {w = w32} (sfits_widen {w = w16} {w' = w32} tt f))

pub overflow_cast-gain : goal.overflow_cast-gain
overflow_cast-gain c = rw (to_z-of_z c.ranges.sample) (sfits_widen tt c.ranges.sample)

pub overflow_add-result : goal.overflow_add-result
overflow_add-result c =
    sum_fits c.args.sample c.args.metric (gain-is c.ranges.sample) (to_z-of_z c.ranges.metric) (omega (arith, c.requires.within)) (omega (arith, c.requires.small))

pub returns-then-bit-eq0 : goal.returns-then-bit-eq0
returns-then-bit-eq0 c =
    sum_is c.args.sample c.args.metric (gain-is c.ranges.sample) (to_z-of_z c.ranges.metric) (omega (arith, c.requires.within)) (omega (arith, c.requires.small))
    ∙ ap (λ (d : ℕ). signed d c.args.sample +ℤ c.args.metric) (sym c.if-bit-eq0.true)

pub overflow_sub-result : goal.overflow_sub-result
overflow_sub-result c =
    difference-fits (pos 0) c.args.sample refl (gain-is c.ranges.sample) (omega arith) (omega (arith, c.requires.within))

pub overflow_add-result-2 : goal.overflow_add-result-2
overflow_add-result-2 c =
    let y = c.args.sample in
    let e = difference_is (pos 0) c.args.sample refl (gain-is c.ranges.sample) (omega arith) (omega (arith, c.requires.within)) ∙ minus c.args.bit y c.if-bit-eq0.false in
    sum_fits (signed c.args.bit y) c.args.metric e (to_z-of_z c.ranges.metric)
    (omega (arith, sign-size c.args.bit y, c.requires.within)) (omega (arith, c.requires.small))

pub returns : goal.returns
returns c =
    let y = c.args.sample in
    let e = difference_is (pos 0) c.args.sample refl (gain-is c.ranges.sample) (omega arith) (omega (arith, c.requires.within)) ∙ minus c.args.bit y c.if-bit-eq0.false in
    sum_is (signed c.args.bit y) c.args.metric e (to_z-of_z c.ranges.metric)
    (omega (arith, sign-size c.args.bit y, c.requires.within)) (omega (arith, c.requires.small))
