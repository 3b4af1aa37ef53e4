-- A word from the far end, turned one position after the other.
use lib.Pow.{pow_mono}
use mathlib.Core.Path.{◌≡◌, ap, refl, ◌∙◌}
use native.Mathlib.Nat.{pow-suc}
use native.Mathlib.Numerals.{add-one}
use native.Mathlib.Omega.{arith}
use Prim.Native.Nat.{◌*◌, ◌+◌, ◌<◌, ◌^◌, suc, zero, ℕ, ◌≤◌}
use Rattle.words.proofs.Word.{bit-lt}
use Rattle.words.specs.Reversed.{reversed}
use Rattle.words.specs.Word.{bit}

pub reversed-below : (n w : ℕ) → reversed n w < 2 ^ n
reversed-below zero w = omega arith
reversed-below (suc n) w = omega (arith, reversed-below n w, bit-lt n w, pow-suc 2 n)

-- ---- turned one position after the other

pub record Turning (n word i turned : ℕ) : Type 0 where
  pub within : i ≤ n
  pub is : turned ≡ reversed i word

pub turning-start : {n word : ℕ} → Turning n word 0 0
turning-start = record { within = omega arith; is = refl }

module _ {n word i turned : ℕ} (t : Turning n word i turned) (short : n ≤ 64) (more : i < n) where
  small : reversed i word < 2 ^ 63
  small = let l : 2 ^ i ≤ 2 ^ 63 = pow_mono {i = i} {j = 63} (omega (arith, short, more)) in omega (arith, reversed-below i word, l)

  pub turning-fits : {b : ℕ} → b ≡ bit word i → turned * 2 + b < 2 ^ 64
  turning-fits {b} e = omega (arith, small, t.is, e, bit-lt i word)

  pub turning-doubles : turned * 2 < 2 ^ 64
  turning-doubles = omega (arith, small, t.is)

  pub turning-on : {b : ℕ} → b ≡ bit word i → Turning n word (i + 1) (turned * 2 + b)
  turning-on {b} e = record { within = omega (arith, more); is = rw (add-one i, t.is, e) }

pub turning-end : {n word i turned : ℕ} → Turning n word i turned → n ≤ i → turned ≡ reversed n word
turning-end {n} {word} {i} t h = let e : i ≡ n = omega (arith, t.within, h) in t.is ∙ ap (λ (k : ℕ). reversed k word) e
