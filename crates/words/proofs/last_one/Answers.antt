-- `words::last_one` meets its contract: the leading zeros begin behind the last one.
use lib.Count.{leading_le, leading_top}
use mathlib.Core.Path.{refl}
use native.Mathlib.Omega.{arith}
use Prim.Native.Nat.{◌<◌}
use Rattle.words.proofs.Ends.{last-is}
use Rattle.words.specs.Ends.{last}
use Rattle.words.proofs.last_one.Goals as goal

pub returns-then-word-eq0 : goal.returns-then-word-eq0
returns-then-word-eq0 c = record { none = λ e. refl; some = λ p. absurd (omega (arith, c.if-word-eq0.true)) }

pub overflow_cast-result : goal.overflow_cast-result
overflow_cast-result c = record { fits = omega (arith, leading_le 64 c.args.word) }

pub overflow_sub-result : goal.overflow_sub-result
overflow_sub-result c =
    let p : 0 < c.args.word = omega (arith, c.if-word-eq0.false) in
    omega (arith, (leading_top 64 c.args.word p c.ranges.word.fits).1)

pub returns : goal.returns
unfolding last
returns c =
    record {
      none = λ e. absurd (omega (arith, e, c.if-word-eq0.false));
      some = λ p. last-is c.args.word p c.ranges.word.fits;
    }
