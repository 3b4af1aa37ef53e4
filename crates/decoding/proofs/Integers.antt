-- Signed numbers: the size of a sum, the machine's sums and tests of numbers that are small, and one more breaks a tie.
use borrow.Author.Tests.{le-ltb, lt-ltb, ltb-false, ltb-true}
use lib.Dec.{ltb}
use lib.IntN.{nat_abs, negsuc, neg_ℤ, pos, sub_ℕ, ◌+ℤ◌, ◌-ℤ◌, ℤ}
use lib.Signed.{lt_z, mag}
use mathlib.Core.Bool.{Bool, cond, false, not, true}
use mathlib.Core.Path.{refl, ◌≡◌}
use mir.Facts.{to_z-of_z}
use mir.Syntax.{w32}
use mir.Val.{SFits, of_z, to_z}
use native.Mathlib.Numerals.{add-one}
use native.Mathlib.Omega.{arith}
use Prim.Native.Nat.{◌+◌, ◌-◌, ◌^◌, suc, zero, ℕ, ◌≤◌}

-- ---- the size of a sum

abs-pick : (a b : ℕ) (t : Bool) → ltb a b ≡ t → nat_abs (cond t (negsuc (b - suc a)) (pos (a - b))) ≤ a + b
abs-pick a b true e = omega (arith, ltb-true a b e)
abs-pick a b false e = omega (arith, ltb-false a b e)

abs-sub : (a b : ℕ) → nat_abs (sub_ℕ a b) ≤ a + b
abs-sub a b = abs-pick a b (ltb a b) refl

pub abs-add : (a b : ℤ) → nat_abs (a +ℤ b) ≤ nat_abs a + nat_abs b
abs-add (pos a) (pos b) = omega arith
abs-add (pos a) (negsuc b) = abs-sub a (suc b)
abs-add (negsuc a) (pos b) = omega (arith, abs-sub b (suc a))
abs-add (negsuc a) (negsuc b) = omega arith

pub abs_neg : (a : ℤ) → nat_abs (neg_ℤ a) ≡ nat_abs a
abs_neg (pos zero) = refl
abs_neg (pos (suc a)) = refl
abs_neg (negsuc a) = refl

pub mag-abs : (a : ℤ) → mag a ≤ nat_abs a
mag-abs (pos a) = omega arith
mag-abs (negsuc a) = omega arith

-- ---- what the machine computes from the bits of small numbers

pub small-fits : (z : ℤ) → nat_abs z ≤ 2 ^ 30 → SFits w32 z
small-fits z h = record { sfits = omega (arith, mag-abs z) }

-- a number as the machine keeps it, in 32 bits
abbrev pub kept : ℤ → ℤ
kept z = to_z w32 (of_z w32 z)

-- a small number is what is read back from its bits
pub back : (z : ℤ) → nat_abs z ≤ 2 ^ 30 → to_z w32 (of_z w32 z) ≡ z
back z h = to_z-of_z (small-fits z h)

-- the machine's sum and difference, of operands that it has computed
module _ {x y : ℤ} (a b : ℤ) (ex : x ≡ a) (ey : y ≡ b) (ha : nat_abs a ≤ 2 ^ 29) (hb : nat_abs b ≤ 2 ^ 29) where
  pub sum_fits : SFits w32 (x +ℤ y)
  sum_fits = rw (ex, ey) (small-fits (a +ℤ b) (omega (arith, abs-add a b)))

  pub sum_is : to_z w32 (of_z w32 (x +ℤ y)) ≡ a +ℤ b
  sum_is = rw (ex, ey) (back (a +ℤ b) (omega (arith, abs-add a b)))

  pub difference-fits : SFits w32 (x -ℤ y)
  difference-fits = rw (ex, ey) (small-fits (a -ℤ b) (omega (arith, abs-add a (neg_ℤ b), abs_neg b)))

  pub difference_is : to_z w32 (of_z w32 (x -ℤ y)) ≡ a -ℤ b
  difference_is = rw (ex, ey) (back (a -ℤ b) (omega (arith, abs-add a (neg_ℤ b), abs_neg b)))

-- ---- one more breaks a tie

flip : (a b : ℕ) (t : Bool) → ltb b a ≡ t → ltb a (suc b) ≡ not t
flip a b true e = le-ltb a (suc b) (ltb-true b a e)
flip a b false e = lt-ltb a (suc b) (omega (arith, ltb-false b a e))

not-flip : (a b : ℕ) → ltb a b ≡ not (ltb b (suc a))
not-flip a b = go (ltb b (suc a)) refl
  where
    go : (t : Bool) → ltb b (suc a) ≡ t → ltb a b ≡ not t
    go true e = le-ltb a b (omega (arith, ltb-true b (suc a) e))
    go false e = lt-ltb a b (omega (arith, ltb-false b (suc a) e))

-- one more than a number below -1
one_more : (b : ℕ) → sub_ℕ 1 (suc (suc b)) ≡ negsuc b
one_more b = let e : suc (suc b) - 2 ≡ b = omega arith in rw (lt-ltb 1 (suc (suc b)) (omega arith), e)

-- less than one more is not less the other way
pub tie-one : (a b : ℤ) → lt_z a (b +ℤ pos 1) ≡ not (lt_z b a)
tie-one (pos a) (pos b) = rw add-one (flip a b (ltb b a) refl)
tie-one (pos a) (negsuc zero) = le-ltb a 0 (omega arith)
tie-one (pos a) (negsuc (suc b)) = rw (one_more b)
tie-one (negsuc a) (pos b) = refl
tie-one (negsuc a) (negsuc zero) = rw (le-ltb a 0 (omega arith))
tie-one (negsuc a) (negsuc (suc b)) = rw (one_more b) (not-flip b a)
