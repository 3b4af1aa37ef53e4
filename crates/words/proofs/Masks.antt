-- The ones that two words have in common, and the ones that either has, by position.
use lib.Arith.{digits_div, digits_mod}
use lib.Bits.{and_le_l, and_le_r, bit_and, bit_or, or_add_and, or_step}
use mathlib.Core.Logic.{inl, inr, ◌⊎◌}
use mathlib.Core.Path.{ap, ◌∙◌, ◌≡◌}
use native.Mathlib.Omega.{arith}
use Prim.Native.Nat.{◌%◌, ◌/◌, max, min, suc, zero, ℕ, ◌≤◌}
use Rattle.words.proofs.Parity.{and-half, and-odd}
use Rattle.words.proofs.Word.{bit-cases, bit-lt, bit-zero, bits-zero}
use Rattle.words.specs.Word.{bit}

pub bit-and : (i a b : ℕ) → bit (bit_and a b) i ≡ min (bit a i) (bit b i)
bit-and zero a b = and-odd a b
bit-and (suc i) a b = ap (λ (x : ℕ). bit x i) (and-half a b) ∙ bit-and i (a / 2) (b / 2)

or-odd : (a b : ℕ) → bit_or a b % 2 ≡ max (a % 2) (b % 2)
or-odd a b = rw (or_step a b) (digits_mod (bit_or (a / 2) (b / 2)) (omega arith))

or-half : (a b : ℕ) → bit_or a b / 2 ≡ bit_or (a / 2) (b / 2)
or-half a b = rw (or_step a b) (digits_div (bit_or (a / 2) (b / 2)) (omega arith))

pub bit-or : (i a b : ℕ) → bit (bit_or a b) i ≡ max (bit a i) (bit b i)
bit-or zero a b = or-odd a b
bit-or (suc i) a b = ap (λ (x : ℕ). bit x i) (or-half a b) ∙ bit-or i (a / 2) (b / 2)

-- a word with the ones of two is no less than either
pub or-least : (a b : ℕ) → (a ≤ bit_or a b) × (b ≤ bit_or a b)
or-least a b = (omega (arith, or_add_and a b, and_le_r a b), omega (arith, or_add_and a b, and_le_l a b))

-- words with no one in common: where one has 1, the other has 0
pub apart-zero : (a b i : ℕ) → bit_and a b ≡ 0 → bit b i ≡ 1 → bit a i ≡ 0
apart-zero a b i e h = omega (arith, bit-and i a b, ap (λ (x : ℕ). bit x i) e, bit-zero i, bit-lt i a)

-- a word that has 0 wherever the other has 1 has no one in common with it
pub zero-apart : (a b : ℕ) → ((i : ℕ) → bit b i ≡ 1 → bit a i ≡ 0) → bit_and a b ≡ 0
zero-apart a b h = bits-zero (bit_and a b) (λ i. bit-and i a b ∙ side i (bit-cases b i))
  where
    side : (i : ℕ) → (bit b i ≡ 0) ⊎ (bit b i ≡ 1) → min (bit a i) (bit b i) ≡ 0
    side i (inl e) = omega arith
    side i (inr e) = omega (arith, h i e)
