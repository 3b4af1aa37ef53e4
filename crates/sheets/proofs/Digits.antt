-- Digits one after the other, and how large a number of so many digits is, in any base.
use Rattle.std.proofs.Common.{Option, Some, None}
use Prim.Native.Nat.{ℕ, zero, suc, ◌+◌, ◌*◌, ◌-◌, ◌^◌, ◌≤◌, ◌<◌}
use borrow.Author.Tests.{leb-true}
use lib.IntN.{pos, neg_ℤ}
use lib.Dec.{leb}
use lib.ListN.{length, drop, get_or}
use mathlib.Core.Bool.{Bool, true, false, ◌&&◌}
use mathlib.Core.List.{List}
use mathlib.Core.Path.{◌≡◌, refl}
use mir.Syntax.{w16}
use mir.Val.{SFits}
use native.Mathlib.Nat.{pow-suc, pow-le-pow_right, mul-le-mul_right, suc-mul, lt_of_lt_of_le}
use native.Mathlib.Omega.{arith}
use Rattle.sheets.specs.Numbers.{is_digit, digits_of}
use Rattle.sheets.specs.Readers.{Below}
use Rattle.sheets.proofs.Bytes.{here, done}

module _ (f : List ℕ) (i v : ℕ) where
  -- one digit more
  pub digits-on : i < length f → is_digit (get_or f i 0) ≡ true → digits_of v (drop i f) ≡ digits_of (v * 10 + (get_or f i 0 - 48)) (drop (i + 1) f)
  digits-on h e = rw (here f i h, e)

  -- none of the ten
  pub digits-bad : i < length f → is_digit (get_or f i 0) ≡ false → digits_of v (drop i f) ≡ None
  digits-bad h e = rw (here f i h, e)

  pub digits-done : length f ≤ i → digits_of v (drop i f) ≡ Some v
  digits-done h = rw (done f i h)

both : (a b : Bool) → (a && b) ≡ true → (a ≡ true) × (b ≡ true)
both true b e = (refl, e)
both false b e = (e, cc)

-- what lies within a range lies between its ends
pub between : (l h x : ℕ) → (leb l x && leb x h) ≡ true → (l ≤ x) × (x ≤ h)
between l h x e = let p = both (leb l x) (leb x h) e in (leb-true l x p.0, leb-true x h p.1)

-- one digit more
pub grow : (b w d i : ℕ) → w < b ^ i → d < b → w * b + d < b ^ suc i
grow b w d i h k =
    let m : suc w * b ≤ b ^ i * b = mul-le-mul_right b h in
    let e : suc w * b ≡ w * b + b = suc-mul w b in
    rw pow-suc (omega arith)

-- and so it stays below the base to the greatest number of digits
pub grown : (b w d i m : ℕ) → 0 < b → w < b ^ i → d < b → i < m → w * b + d < b ^ m
grown b w d i m z h k l = lt_of_lt_of_le (grow b w d i h k) (pow-le-pow_right z l)

pub below_more : {k m : ℕ} (r : Option ℕ) → k ≤ m → Below k r → Below m r
below_more (Some v) h b = omega arith
below_more None h b = tt

-- a number of four digits below zero fits a sample
pub negative_fits : (v : ℕ) → v < 10000 → SFits w16 (neg_ℤ (pos v))
negative_fits zero h = record { sfits = omega arith }
negative_fits (suc n) h = record { sfits = omega arith }
