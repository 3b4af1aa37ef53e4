use mathlib.Core.Path.{refl}
use mir.Facts.{to_z-of_z}
use native.Mathlib.Omega.{arith}
use Rattle.decoding.proofs.Integers.{sum_fits, sum_is}
use Rattle.decoding.proofs.choices.alone.Goals as goal

pub overflow_add-result : goal.overflow_add-result
overflow_add-result c =
    sum_fits c.args.sign c.args.near (to_z-of_z c.ranges.sign) (to_z-of_z c.ranges.near) (omega (arith, c.requires.sign)) (omega (arith, c.requires.near))

pub returns : goal.returns
returns c =
    record {
      metric = sum_is c.args.sign c.args.near (to_z-of_z c.ranges.sign) (to_z-of_z c.ranges.near) (omega (arith, c.requires.sign)) (omega (arith, c.requires.near));
      additions = refl;
      comparisons = refl;
    }
