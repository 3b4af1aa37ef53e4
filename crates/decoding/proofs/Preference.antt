-- The choice between two branches of a state with different bits, as the code makes it and as the definition says it.
use lib.Dec.{eqb}
use lib.IntN.{◌+ℤ◌, +ℤ_idl, ◌-ℤ◌, nat_abs, neg_ℤ, pos, ℤ}
use lib.Signed.{lt_z}
use mathlib.Core.Bool.{Bool, cond, false, true}
use mathlib.Core.Path.{ap, ap₂, refl, ◌∙◌, ◌≡◌}
use mir.Syntax.{w32}
use mir.Val.{SFits, of_z, to_z}
use native.Mathlib.Omega.{arith}
use Prim.Native.Nat.{◌<◌, ◌^◌, suc, zero, ℕ, ◌≤◌}
use Rattle.decoding.proofs.Integers.{abs-add, abs_neg, back, difference-fits, difference_is, sum_fits, sum_is}
use Rattle.decoding.specs.Choosing.{takes_second}
use Rattle.decoding.specs.Taking.{signed}

-- the bit 1 adds the negation
pub minus : (d : ℕ) (y : ℤ) → (d ≡ 0 → ⊥) → pos 0 -ℤ y ≡ signed d y
minus zero y h = absurd (h refl)
minus (suc d) y h = +ℤ_idl (neg_ℤ y)

pub sign-size : (d : ℕ) (y : ℤ) → nat_abs (signed d y) ≡ nat_abs y
sign-size zero y = refl
sign-size (suc d) y = abs_neg y

-- the machine's copies of a sign and of a tie
pub sign-copy : (d : ℕ) (y s : ℤ) → nat_abs y ≤ 2 ^ 20 → s ≡ signed d y → to_z w32 (of_z w32 s) ≡ signed d y
sign-copy d y s h e = rw e (back (signed d y) (omega (arith, sign-size d y)))

pub tie-copy : (d : ℕ) (u : ℤ) → d < 2 → u ≡ pos d → to_z w32 (of_z w32 u) ≡ pos d
tie-copy d u h e = rw e (back (pos d) (omega arith))

-- a choice by a digit that is 1 where a test holds
pub by-test {ℓ} : {A : Type ℓ} (t : Bool) (x y : A) → cond (eqb (cond t 1 0) 0) x y ≡ cond t y x
by-test true x y = refl
by-test false x y = refl

size-cond : (t : Bool) (x y : ℤ) → nat_abs x ≤ 2 ^ 30 → nat_abs y ≤ 2 ^ 30 → nat_abs (cond t x y) ≤ 2 ^ 30
size-cond true x y hx hy = hx
size-cond false x y hx hy = hy

-- ---- what the code computes from the metrics a and b where the branches lead, the first one's sign q and the tie t

module _ (a b q t : ℤ) (ha : nat_abs a ≤ 2 ^ 27) (hb : nat_abs b ≤ 2 ^ 27) (hq : nat_abs q ≤ 2 ^ 20) (ht : nat_abs t ≤ 1)
    {a' b' q' t' : ℤ} (ea : a' ≡ a) (eb : b' ≡ b) (eq : q' ≡ q) (et : t' ≡ t) where
  pub first_fits : SFits w32 (q' +ℤ a')
  first_fits = sum_fits q a eq ea (omega arith) (omega arith)

  first-is : to_z w32 (of_z w32 (q' +ℤ a')) ≡ q +ℤ a
  first-is = sum_is q a eq ea (omega arith) (omega arith)

  pub second_fits : SFits w32 (b' -ℤ q')
  second_fits = difference-fits b q eb eq (omega arith) (omega arith)

  second_is : to_z w32 (of_z w32 (b' -ℤ q')) ≡ b -ℤ q
  second_is = difference_is b q eb eq (omega arith) (omega arith)

  second-size : nat_abs (b -ℤ q) ≤ 2 ^ 28
  second-size = omega (arith, abs-add b (neg_ℤ q), abs_neg q)

  pub raised-fits : SFits w32 (to_z w32 (of_z w32 (b' -ℤ q')) +ℤ t')
  raised-fits = sum_fits (b -ℤ q) t second_is et (omega (arith, second-size)) (omega arith)

  raised_is : to_z w32 (of_z w32 (to_z w32 (of_z w32 (b' -ℤ q')) +ℤ t')) ≡ (b -ℤ q) +ℤ t
  raised_is = sum_is (b -ℤ q) t second_is et (omega (arith, second-size)) (omega arith)

  pub taken_is : (d : ℕ) → d ≡ cond (lt_z (to_z w32 (of_z w32 (q' +ℤ a'))) (to_z w32 (of_z w32 (to_z w32 (of_z w32 (b' -ℤ q')) +ℤ t')))) 1 0
      → d ≡ cond (takes_second a b q t) 1 0
  taken_is d e = rw (first-is, raised_is) at e

  pub metric_is : (d : ℕ) (r : ℤ) → d ≡ cond (takes_second a b q t) 1 0
      → r ≡ cond (eqb d 0) (to_z w32 (of_z w32 (q' +ℤ a'))) (to_z w32 (of_z w32 (b' -ℤ q')))
      → to_z w32 (of_z w32 r) ≡ cond (takes_second a b q t) (b -ℤ q) (q +ℤ a)
  metric_is d r ed er =
      let e : r ≡ cond (takes_second a b q t) (b -ℤ q) (q +ℤ a) =
      er ∙ ap (λ (n : ℕ). cond (eqb n 0) (to_z w32 (of_z w32 (q' +ℤ a'))) (to_z w32 (of_z w32 (b' -ℤ q')))) ed
      ∙ by-test (takes_second a b q t) _ _ ∙ ap₂ (λ (x y : ℤ). cond (takes_second a b q t) x y) second_is first-is in
      ap (λ (z : ℤ). to_z w32 (of_z w32 z)) e
      ∙ back _ (size-cond (takes_second a b q t) (b -ℤ q) (q +ℤ a) (omega (arith, second-size)) (omega (arith, abs-add q a)))
