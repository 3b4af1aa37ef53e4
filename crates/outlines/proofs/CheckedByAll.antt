-- The dual of the dual is the code: a word that is even with every word that a matrix checks is a sum of its rows.
use lib.Bits.{bit_xor, differ, xor_lt}
use lib.ListN.{get_or, length}
use lib.Pow.{pow-lt}
use mathlib.Core.List.{List, [], ◌∷◌}
use mathlib.Core.Logic.{inl, inr, ◌⊎◌}
use mathlib.Core.Path.{◌≡◌, ap, ap₂, subst, sym, ◌∙◌}
use native.Mathlib.Decide.{dec_lt, ℕ_discrete}
use native.Mathlib.Omega.{arith}
use Prim.Native.Nat.{◌<◌, ◌^◌, suc, suc-le-suc, zero, zero-le, ℕ}
use Rattle.plates.specs.Code.{Checked}
use Rattle.plates.specs.declared.Kind.TheVariants.{H}
use Rattle.trellises.proofs.DualPositions.{first-place}
use Rattle.trellises.proofs.PlateGenerates.{code-closed}
use Rattle.words.proofs.Parity.{parity-comm, parity-power, parity-xor}
use Rattle.words.proofs.Span.{zero_one}
use Rattle.words.proofs.Sums.{in-cons, in_row, in-xor}
use Rattle.words.proofs.Word.{bits_below, bits-zero, digit, xor-cancel}
use Rattle.words.specs.Parity.{parity}
use Rattle.words.specs.Sum.{IsSum}
use Rattle.words.specs.Word.{bit}

-- ---- parities

small : (a b : ℕ) → parity a b < 2
small a b = omega arith

even-or-odd : (a b : ℕ) → (parity a b ≡ 0) ⊎ (parity a b ≡ 1)
even-or-odd a b = digit (parity a b) (small a b)

not-odd : (a b : ℕ) → (parity a b ≡ 1 → ⊥) → parity a b ≡ 0
not-odd a b none = omega (arith, none, small a b)

parity-right : (v a b : ℕ) → parity v (bit_xor a b) ≡ differ (parity v a) (parity v b)
parity-right v a b = parity-comm v (bit_xor a b) ∙ parity-xor a b v ∙ ap₂ differ (parity-comm a v) (parity-comm b v)

differ-one : (x : ℕ) → x < 2 → differ x 1 ≡ 0 → x ≡ 1
differ-one zero h e = absurd (zero_one e (omega arith))
differ-one (suc zero) h e = omega arith
differ-one (suc (suc x)) h e = absurd (omega (arith, h))

-- ---- whether some word that the rows check is odd with w, by trying one after the other

checked-or-not : (n : ℕ) (rows : List ℕ) (v : ℕ) → Dec (Checked n rows v)
checked-or-not n rows v =
    go (dec_lt v (2 ^ n)) (first-place (λ j. parity (get_or rows j 0) v ≡ 1) (λ j. ℕ_discrete (parity (get_or rows j 0) v) 1) (length rows))
  where
    go : Dec (v < 2 ^ n)
        → ((j : ℕ) × (j < length rows) × (parity (get_or rows j 0) v ≡ 1) × ((i : ℕ) → i < j → parity (get_or rows i 0) v ≡ 1 → ⊥))
        ⊎ ((j : ℕ) → j < length rows → parity (get_or rows j 0) v ≡ 1 → ⊥)
        → Dec (Checked n rows v)
    go (no h) found = no (λ c. h c.below)
    go (yes h) (inl x) = no (λ c. zero_one (c.even x.0 x.1) x.2)
    go (yes h) (inr none) = yes (record { below = h; even = λ j k. not-odd (get_or rows j 0) v (none j k) })

-- a word that the rows check and that is odd with w
record Odd (n : ℕ) (rows : List ℕ) (w v : ℕ) : Type 0 where
  pub checked : Checked n rows v
  pub odd : parity v w ≡ 1

odd-or-not : (n : ℕ) (rows : List ℕ) (w v : ℕ) → Dec (Odd n rows w v)
odd-or-not n rows w v = go (checked-or-not n rows v) (ℕ_discrete (parity v w) 1)
  where
    go : Dec (Checked n rows v) → Dec (parity v w ≡ 1) → Dec (Odd n rows w v)
    go (no h) d = no (λ o. h o.checked)
    go (yes c) (no h) = no (λ o. h o.odd)
    go (yes c) (yes e) = yes (record { checked = c; odd = e })

-- ---- one row more: where such a word is odd with w it is odd with the row, and w plus the row is even with all that the other rows check

module _ (n r : ℕ) (rows : List ℕ) (low : r < 2 ^ n) (w : ℕ) (short : w < 2 ^ n) (all-even : (v : ℕ) → Checked n (r ∷ rows) v → parity v w ≡ 0) where
  -- what the other rows check and is even with the row is checked by all
  with-row : (v : ℕ) → Checked n rows v → parity v r ≡ 0 → Checked n (r ∷ rows) v
  with-row v c e = record { below = c.below; even = at }
    where
      at : (j : ℕ) → j < length (r ∷ rows) → parity (get_or (r ∷ rows) j 0) v ≡ 0
      at zero h = parity-comm r v ∙ e
      at (suc i) h = c.even i (omega arith)

  odd-with-row : (v : ℕ) → Odd n rows w v → parity v r ≡ 1
  odd-with-row v o = go (even-or-odd v r)
    where
      go : (parity v r ≡ 0) ⊎ (parity v r ≡ 1) → parity v r ≡ 1
      go (inl e) = absurd (zero_one (all-even v (with-row v o.checked e)) o.odd)
      go (inr e) = e

  row-added : (u : ℕ) → Odd n rows w u → (v : ℕ) → Checked n rows v → parity v (bit_xor r w) ≡ 0
  row-added u o v c = go (even-or-odd v r)
    where
      go : (parity v r ≡ 0) ⊎ (parity v r ≡ 1) → parity v (bit_xor r w) ≡ 0
      go (inl e) = parity-right v r w ∙ ap₂ differ e (all-even v (with-row v c e))
      go (inr e) =
          let both = code-closed H n rows v u c o.checked in
          let even : parity (bit_xor v u) r ≡ 0 = parity-xor v u r ∙ ap₂ differ e (odd-with-row u o) in
          let same : differ (parity v w) 1 ≡ 0 =
          ap (differ (parity v w)) (sym o.odd) ∙ sym (parity-xor v u w) ∙ all-even (bit_xor v u) (with-row (bit_xor v u) both even) in
          parity-right v r w ∙ ap₂ differ e (differ-one (parity v w) (small v w) same)

  one-row : ((x : ℕ) → x < 2 ^ n → ((v : ℕ) → Checked n rows v → parity v x ≡ 0) → IsSum rows x) → IsSum (r ∷ rows) w
  one-row sums = go (first-place (Odd n rows w) (odd-or-not n rows w) (2 ^ n))
    where
      go : ((v : ℕ) × (v < 2 ^ n) × Odd n rows w v × ((i : ℕ) → i < v → Odd n rows w i → ⊥)) ⊎ ((v : ℕ) → v < 2 ^ n → Odd n rows w v → ⊥)
          → IsSum (r ∷ rows) w
      go (inl x) =
          subst (IsSum (r ∷ rows)) (xor-cancel r w)
          (in-xor (in_row (r ∷ rows) 0) (in-cons r (sums (bit_xor r w) (xor_lt n r w low short) (row-added x.0 x.2))))
      go (inr none) = in-cons r (sums w short (λ v c. not-odd v w (λ e. none v c.below (record { checked = c; odd = e }))))

-- ---- all rows

pub checked-by-all : (n : ℕ) (rows : List ℕ) → ((j : ℕ) → j < length rows → get_or rows j 0 < 2 ^ n) → (w : ℕ) → w < 2 ^ n
    → ((v : ℕ) → Checked n rows v → parity v w ≡ 0) → IsSum rows w
checked-by-all n [] low w short all-even = record { by = 0; sum = sym (bits-zero w (λ i. at i (dec_lt i n))) }
  where
    at : (i : ℕ) → Dec (i < n) → bit w i ≡ 0
    at i (yes h) = sym (parity-power i w) ∙ all-even (2 ^ i) (record { below = pow-lt h; even = λ j k. absurd (omega (arith, k)) })
    at i (no h) = bits_below n w short i (omega arith)
checked-by-all n (r ∷ rows) low w short all-even =
    one-row n r rows (low 0 (suc-le-suc zero-le)) w short all-even (checked-by-all n rows (λ j h. low (suc j) (suc-le-suc h)))
