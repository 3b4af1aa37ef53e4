-- What adding one row to another does to first and last ones.
use lib.Bits.{bit_xor, differ}
use mathlib.Core.Logic.{inl, inr, ◌⊎◌}
use mathlib.Core.Path.{ap, ap₂, subst, ◌∙◌, ◌≡◌}
use native.Mathlib.Omega.{arith}
use Prim.Native.Nat.{◌<◌, ℕ}
use Rattle.words.proofs.Span.{gt-tri, lead-xor, lt-tri, zero_one}
use Rattle.words.proofs.Word.{bit-xor, differ-zero}
use Rattle.words.specs.Span.{After, Before, First, Last}
use Rattle.words.specs.Word.{bit}

-- a row that begins later, or ends sooner, changes no first one, or last one
pub keeps-first : {a b p q : ℕ} → First a p → First b q → p < q → First (bit_xor a b) p
keeps-first = lead-xor Before (λ a h. omega arith) (λ a b c g h. omega arith) lt-tri

pub keeps-last : {a b p q : ℕ} → Last a p → Last b q → q < p → Last (bit_xor a b) p
keeps-last = lead-xor After (λ a h. omega arith) (λ a b c g h. omega arith) gt-tri

-- two rows with the same last one: the sum ends sooner
pub last-falls : (a b p q : ℕ) → Last a p → Last b p → Last (bit_xor a b) q → q < p
last-falls a b p q ha hb h = go (lt-tri q p)
  where
    go : (q < p) ⊎ ((q ≡ p) ⊎ (p < q)) → q < p
    go (inl c) = c
    go (inr (inl e)) = absurd (zero_one (bit-xor p a b ∙ ap₂ differ ha.one hb.one) (subst (λ (x : ℕ). bit (bit_xor a b) x ≡ 1) e h.one))
    go (inr (inr c)) = absurd (zero_one (bit-xor q a b ∙ ap₂ differ (ha.zeros q c) (hb.zeros q c)) h.one)

-- a row that begins at q clears the bit there, and changes none before
pub clears : (a b q : ℕ) → First b q → bit a q ≡ 1 → bit (bit_xor a b) q ≡ 0
clears a b q h e = bit-xor q a b ∙ ap₂ differ e h.one

pub keeps_below : (a b q i : ℕ) → First b q → i < q → bit (bit_xor a b) i ≡ bit a i
keeps_below a b q i h l = bit-xor i a b ∙ ap (differ (bit a i)) (h.zeros i l) ∙ differ-zero (bit a i)
