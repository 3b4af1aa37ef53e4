use mathlib.Core.Path.{◌∙◌, refl}
use mir.Facts.{to_z-of_z}
use lib.IntN.{pos}
use native.Mathlib.Omega.{arith}
use Rattle.decoding.proofs.Integers.{difference-fits, difference_is}
use Rattle.decoding.proofs.Preference.{minus}
use Rattle.decoding.proofs.choices.sign_of.Goals as goal

pub overflow_sub-result : goal.overflow_sub-result
overflow_sub-result c =
    difference-fits (pos 0) c.args.gain refl (to_z-of_z c.ranges.gain) (omega arith) (omega (arith, c.requires))

pub returns-then-bit-eq0 : goal.returns-then-bit-eq0
returns-then-bit-eq0 c = rw c.if-bit-eq0.true (to_z-of_z c.ranges.gain)

pub returns-else-bit-eq0 : goal.returns-else-bit-eq0
returns-else-bit-eq0 c =
    difference_is (pos 0) c.args.gain refl (to_z-of_z c.ranges.gain) (omega arith) (omega (arith, c.requires)) ∙ minus c.args.bit c.args.gain c.if-bit-eq0.false
