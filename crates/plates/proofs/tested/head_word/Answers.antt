-- `plates::tested::head_word` meets its contract: 1 moved up to the first one is the power of 2 there.
use lib.Pow.{shl_exact}
use mathlib.Core.Path.{◌∙◌, ap, refl}
use native.Mathlib.Nat.{one-mul}
use native.Mathlib.Omega.{arith}
use Prim.Native.Nat.{◌<◌, ◌^◌, ℕ}
use Rattle.words.proofs.Ends.{first-one-is, one-before}
use Rattle.plates.proofs.tested.head_word.Goals as goal

-- the first one of a row that has one is a position of the word
inside : (c : goal.After-first_one) → c.first_one.result < 64
inside c = let h : 0 < c.args.row = omega (arith, c.if-row-eq0.false) in
    one-before 64 c.args.row c.first_one.result c.ranges.row.fits (c.first_one.ensures.some h).one

pub returns-then-row-eq0 : goal.returns-then-row-eq0
returns-then-row-eq0 c = record { none = λ e. refl; some = λ h. absurd (omega (arith, c.if-row-eq0.true)) }

pub overflow_shl-result : goal.overflow_shl-result
overflow_shl-result c = inside c

pub returns : goal.returns
returns c =
    record {
      none = λ e. absurd (omega (arith, e, c.if-row-eq0.false));
      some = λ h.
          shl_exact 1 c.first_one.result 64 (omega arith) (omega (arith, inside c))
          ∙ one-mul (2 ^ c.first_one.result)
          ∙ ap (λ (p : ℕ). 2 ^ p) (first-one-is h c.ranges.row.fits c.first_one.ensures);
    }
