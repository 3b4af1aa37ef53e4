-- `choices::choose` meets its contract.
use mathlib.Core.Path.{refl}
use mir.Facts.{to_z-of_z}
use native.Mathlib.Omega.{arith}
use Rattle.decoding.proofs.Preference.{first_fits, metric_is, raised-fits, second_fits, taken_is}
use Rattle.decoding.proofs.choices.choose.Goals as goal

pub overflow_add-first : goal.overflow_add-first
overflow_add-first c =
    first_fits c.args.near c.args.far c.args.sign c.args.tie c.requires.near c.requires.far c.requires.sign c.requires.tie (to_z-of_z c.ranges.near) (to_z-of_z c.ranges.far) (to_z-of_z c.ranges.sign) (to_z-of_z c.ranges.tie)

pub overflow_sub-second : goal.overflow_sub-second
overflow_sub-second c =
    second_fits c.args.near c.args.far c.args.sign c.args.tie c.requires.near c.requires.far c.requires.sign c.requires.tie (to_z-of_z c.ranges.near) (to_z-of_z c.ranges.far) (to_z-of_z c.ranges.sign) (to_z-of_z c.ranges.tie)

pub overflow_add-second : goal.overflow_add-second
overflow_add-second c =
    raised-fits c.args.near c.args.far c.args.sign c.args.tie c.requires.near c.requires.far c.requires.sign c.requires.tie (to_z-of_z c.ranges.near) (to_z-of_z c.ranges.far) (to_z-of_z c.ranges.sign) (to_z-of_z c.ranges.tie)

pub returns : goal.returns
returns c =
    let e = taken_is c.args.near c.args.far c.args.sign c.args.tie c.requires.near c.requires.far c.requires.sign c.requires.tie (to_z-of_z c.ranges.near) (to_z-of_z c.ranges.far) (to_z-of_z c.ranges.sign) (to_z-of_z c.ranges.tie) c.is_less-taken.result c.is_less-taken.ensures in
    record {
      metric = metric_is c.args.near c.args.far c.args.sign c.args.tie c.requires.near c.requires.far c.requires.sign c.requires.tie (to_z-of_z c.ranges.near) (to_z-of_z c.ranges.far) (to_z-of_z c.ranges.sign) (to_z-of_z c.ranges.tie) c.is_less-taken.result c.either.result e c.either.ensures;
      second = e;
      additions = omega arith;
      comparisons = refl;
    }
