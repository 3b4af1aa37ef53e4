-- A word's first and last one by the language's counts of zeros at either end.
use lib.Count.{leading_top, count_leading_zeros, count_trailing_zeros, under}
use mathlib.Core.Logic.{inl, inr, ◌⊎◌}
use mathlib.Core.Path.{refl, subst, sym, ◌∙◌, ◌≡◌}
use native.Mathlib.Decide.{dec_lt}
use native.Mathlib.Nat.{pow-suc}
use native.Mathlib.Omega.{arith}
use Prim.Native.Nat.{◌%◌, ◌-◌, ◌/◌, ◌<◌, ◌^◌, suc, suc-le-suc, zero, zero-le, ℕ, ◌≤◌}
use Rattle.words.proofs.Span.{first-unique, last-unique, lt-tri, zero_one}
use Rattle.words.proofs.Word.{below-bits, bit-cases, bit-zero, bits_below}
use Rattle.words.specs.Ends.{FirstOne, LastOne, first, last}
use Rattle.words.specs.Span.{First, Last}
use Rattle.words.specs.Word.{bit}

pub first-trailing : (k w : ℕ) → 0 < w → w < 2 ^ k → First w (count_trailing_zeros k w)
unfolding count_trailing_zeros
first-trailing zero w p h = absurd (omega arith)
first-trailing (suc k) w p h = go (bit-cases w 0) (λ q. first-trailing k (w / 2) q (omega (arith, pow-suc 2 k)))
  where
    low : {t : ℕ} → w % 2 ≡ 0 → First (w / 2) t → (i : ℕ) → i < suc t → bit w i ≡ 0
    low e f zero l = e
    low e f (suc i) l = f.zeros i (omega arith)

    go : (w % 2 ≡ 0) ⊎ (w % 2 ≡ 1) → (0 < w / 2 → First (w / 2) (count_trailing_zeros k (w / 2))) → First w (under (w % 2) (count_trailing_zeros k (w / 2)))
    go (inl e) ih =
        let f = ih (omega arith) in
        subst (λ (d : ℕ). First w (under d (count_trailing_zeros k (w / 2)))) (sym e) (record { one = f.one; zeros = low e f })
    go (inr e) ih = subst (λ (d : ℕ). First w (under d (count_trailing_zeros k (w / 2)))) (sym e) (record { one = e; zeros = λ i l. absurd (omega arith) })

pub some-pos : (w p : ℕ) → bit w p ≡ 1 → 0 < w
some-pos zero p e = absurd (zero_one (bit-zero p) e)
some-pos (suc w) p e = suc-le-suc zero-le

-- a word below 2 ^ n has its ones before n
pub one-before : (n w p : ℕ) → w < 2 ^ n → bit w p ≡ 1 → p < n
one-before n w p h e = go (dec_lt p n)
  where
    go : Dec (p < n) → p < n
    go (yes b) = b
    go (no b) = absurd (zero_one (bits_below n w h p (omega arith)) e)

pub last-leading : (k w : ℕ) → 0 < w → w < 2 ^ k → Last w (k - suc (count_leading_zeros k w))
last-leading k w p h =
    let t = leading_top k w p h in
    subst (Last w) (omega (arith, t.1)) (record { one = one t.0 t.2 t.3 (bit-cases w t.0); zeros = bits_below (suc t.0) w t.3 })
  where
    one : (j : ℕ) → 2 ^ j ≤ w → w < 2 ^ suc j → (bit w j ≡ 0) ⊎ (bit w j ≡ 1) → bit w j ≡ 1
    one j g l (inr e) = e
    one j g l (inl e) = absurd (omega (arith, below-bits j w (λ i m. above i (lt-tri j i) m)))
      where
        above : (i : ℕ) → (j < i) ⊎ ((j ≡ i) ⊎ (i < j)) → j ≤ i → bit w i ≡ 0
        above i (inl b) m = bits_below (suc j) w l i b
        above i (inr (inl q)) m = subst (λ (x : ℕ). bit w x ≡ 0) q e
        above i (inr (inr b)) m = absurd (omega arith)

-- ---- the same of 64-bit words, by the names of specs/Ends

pub first-is : (w : ℕ) → 0 < w → w < 2 ^ 64 → First w (first w)
unfolding first
first-is w p h = first-trailing 64 w p h

pub last-is : (w : ℕ) → 0 < w → w < 2 ^ 64 → Last w (last w)
unfolding last
last-is w p h = let e : 64 - suc (count_leading_zeros 64 w) ≡ 63 - count_leading_zeros 64 w = omega arith in subst (Last w) e (last-leading 64 w p h)

-- the positions that `first_one` and `last_one` promise, where there is a one
pub first-one-is : {w r : ℕ} → 0 < w → w < 2 ^ 64 → FirstOne w r → r ≡ first w
first-one-is {w} p h f = first-unique (f.some p) (first-is w p h)

pub last-one-is : {w r : ℕ} → 0 < w → w < 2 ^ 64 → LastOne w r → r ≡ last w
last-one-is {w} p h f = last-unique (f.some p) (last-is w p h)

-- determined: two replies that meet the promise of `first_one`, or of `last_one`, are equal
pub first-one-determined : (w r s : ℕ) → FirstOne w r → FirstOne w s → r ≡ s
first-one-determined zero r s f g = f.none refl ∙ sym (g.none refl)
first-one-determined (suc w) r s f g = first-unique (f.some (suc-le-suc zero-le)) (g.some (suc-le-suc zero-le))

pub last-one-determined : (w r s : ℕ) → LastOne w r → LastOne w s → r ≡ s
last-one-determined zero r s f g = f.none refl ∙ sym (g.none refl)
last-one-determined (suc w) r s f g = last-unique (f.some (suc-le-suc zero-le)) (g.some (suc-le-suc zero-le))

-- a first one, or a last one, is the one
pub first-at : {w p : ℕ} → w < 2 ^ 64 → First w p → first w ≡ p
first-at {w} {p} h f = first-unique (first-is w (some-pos w p f.one) h) f

pub last-at : {w p : ℕ} → w < 2 ^ 64 → Last w p → last w ≡ p
last-at {w} {p} h f = last-unique (last-is w (some-pos w p f.one) h) f
