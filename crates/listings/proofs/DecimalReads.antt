-- A printed number read again: its digits have its value, and the first is 0 only for 0 itself.
use lib.ListN.{get_or}
use mathlib.Core.List.{◌++◌, List, [], ◌∷◌}
use mathlib.Core.Path.{refl, ◌≡◌}
use native.Mathlib.Decide.{dec_lt}
use native.Mathlib.Omega.{arith}
use Prim.Native.Nat.{◌%◌, ◌*◌, ◌+◌, ◌-◌, ◌/◌, ◌<◌, ◌^◌, suc, zero, ℕ, ◌≤◌}
use Rattle.listings.proofs.Digits.{decimal-high, decimal-low}
use Rattle.listings.specs.Decimal.{decimal, digits}

-- digits read from the left, after a value
abbrev pub read : ℕ → List ℕ → ℕ
read value [] = value
read value (digit ∷ digits) = read (value * 10 + (digit - 48)) digits

-- digits after digits
read-append : (value : ℕ) (s t : List ℕ) → read value (s ++ t) ≡ read (read value s) t
read-append value [] t = refl
read-append value (digit ∷ digits) t = read-append (value * 10 + (digit - 48)) digits t

-- what is so for one digit, and for a number where it is so for its tenth, is so for all of 64 bits
module _ (P : ℕ → Type 0) (low : (n : ℕ) → n < 10 → P n) (high : (n : ℕ) → 10 ≤ n → n < 2 ^ 64 → P (n / 10) → P n) where
  -- by numbers up to k
  up_to : (k n : ℕ) → n ≤ k → n < 2 ^ 64 → P n
  up_to zero n l h = low n (omega arith)
  up_to (suc k) n l h = here (dec_lt n 10) (λ m a. up_to k m (omega arith) (omega arith))
    where
      here : Dec (n < 10) → ((m : ℕ) → m < n → P m) → P n
      here (yes a) less = low n a
      here (no a) less = high n (omega arith) h (less (n / 10) (omega arith))

  -- for all of them
  tenths : (n : ℕ) → n < 2 ^ 64 → P n
  tenths n = up_to n n (omega arith)

-- the digits have the value
pub decimal-value : (n : ℕ) → n < 2 ^ 64 → read 0 (decimal n) ≡ n
decimal-value = tenths (λ n. read 0 (decimal n) ≡ n) low high
  where
    low : (n : ℕ) → n < 10 → read 0 (decimal n) ≡ n
    low n h = rw (decimal-low n h) (omega arith)

    high : (n : ℕ) → 10 ≤ n → n < 2 ^ 64 → read 0 (decimal (n / 10)) ≡ n / 10 → read 0 (decimal n) ≡ n
    high n h l e = rw (decimal-high n h l, read-append 0 (decimal (n / 10)) ((48 + n % 10) ∷ []), e) (omega arith)

-- no leading zero but for 0 itself
pub no-leading-zero : (n : ℕ) → n < 2 ^ 64 → 0 < n → 48 < get_or (decimal n) 0 0
no-leading-zero = tenths (λ n. 0 < n → 48 < get_or (decimal n) 0 0) low high
  where
    low : (n : ℕ) → n < 10 → 0 < n → 48 < get_or (decimal n) 0 0
    low n h p = rw (decimal-low n h) (omega arith)

    first : (s t : List ℕ) → 48 < get_or s 0 0 → 48 < get_or (s ++ t) 0 0
    first [] t h = absurd (omega arith)
    first (x ∷ s) t h = h

    high : (n : ℕ) → 10 ≤ n → n < 2 ^ 64 → (0 < n / 10 → 48 < get_or (decimal (n / 10)) 0 0) → 0 < n → 48 < get_or (decimal n) 0 0
    high n h l less p = rw (decimal-high n h l) (first (decimal (n / 10)) ((48 + n % 10) ∷ []) (less (omega arith)))
