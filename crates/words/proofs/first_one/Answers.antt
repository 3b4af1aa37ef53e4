-- `words::first_one` meets its contract: the trailing zeros end at the first one.
use lib.Count.{trailing_le, trailing_of_zero, count_trailing_zeros}
use mathlib.Core.Path.{◌∙◌, ap}
use native.Mathlib.Omega.{arith}
use Rattle.words.proofs.Ends.{first-trailing}
use Rattle.words.proofs.first_one.Goals as goal

pub overflow_cast-result : goal.overflow_cast-result
overflow_cast-result c = record { fits = omega (arith, trailing_le 64 c.args.word) }

pub returns : goal.returns
returns c =
    record {
      none = λ e. ap (count_trailing_zeros 64) e ∙ trailing_of_zero 64;
      some = λ p. first-trailing 64 c.args.word p c.ranges.word.fits;
    }
