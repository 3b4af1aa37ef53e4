-- A word is in the code exactly if it is a sum of the plate's rows.
use lib.Bits.{bit_xor, differ}
use lib.Count.{count_leading_zeros}
use lib.ListN.{get_or, length}
use lib.Pow.{pow_pos}
use mathlib.Core.List.{List, [], ◌∷◌}
use mathlib.Core.Logic.{inl, inr, ◌↔◌, ◌⊎◌}
use mathlib.Core.Path.{ap₂, subst, sym, ◌∙◌, ◌≡◌}
use native.Mathlib.Decide.{dec_lt}
use native.Mathlib.Nat.{pow-suc}
use native.Mathlib.Omega.{arith}
use Prim.Native.Nat.{◌%◌, ◌+◌, ◌-◌, ◌/◌, ◌<◌, ◌^◌, suc, suc-le-suc, zero, zero-le, ℕ, ◌≤◌}
use Rattle.plates.specs.Code.{InCode}
use Rattle.plates.specs.declared.Kind.{Kind}
use Rattle.plates.specs.declared.Kind.TheVariants.{G, H}
use Rattle.plates.specs.Heads.{RowFor, RowsOf}
use Rattle.words.proofs.Ends.{last-leading, some-pos}
use Rattle.words.proofs.Parity.{parity-comm, parity-xor, parity-zero}
use Rattle.words.proofs.Span.{zero_one}
use Rattle.words.proofs.Sums.{in_row, in-xor, in-zero}
use Rattle.words.proofs.Word.{below-bits, bit-cases, bit-xor, bits_below, bits-zero, xor-cancel}
use Rattle.words.specs.Ends.{first}
use Rattle.words.specs.Span.{First, Last}
use Rattle.words.specs.Sum.{IsSum, sum_of, taken}
use Rattle.words.specs.Word.{bit}

-- a bound for any word
below-pow : (w : ℕ) → w < 2 ^ w
below-pow zero = omega arith
below-pow (suc w) = omega (arith, below-pow w, pow-suc 2 w)

-- zero before q and at q
up_to : (w q : ℕ) → bit w q ≡ 0 → ((i : ℕ) → i < q → bit w i ≡ 0) → (i : ℕ) → i < suc q → bit w i ≡ 0
up_to w q o z i h = go (dec_lt i q)
  where
    go : Dec (i < q) → bit w i ≡ 0
    go (yes a) = z i a
    go (no a) = let e : q ≡ i = omega arith in subst (λ (x : ℕ). bit w x ≡ 0) e o

-- two words with the same first one: their sum has none up to there
both_first : (a b q : ℕ) → First a q → First b q → (i : ℕ) → i < suc q → bit (bit_xor a b) i ≡ 0
both_first a b q x y =
    up_to (bit_xor a b) q (bit-xor q a b ∙ ap₂ differ x.one y.one) (λ i h. bit-xor i a b ∙ ap₂ differ (x.zeros i h) (y.zeros i h))

-- the last one of a word below 2 ^ b
last-below : (b w p : ℕ) → w < 2 ^ b → bit w p ≡ 1 → (q : ℕ) × (q < b) × Last w q
last-below b w p h o = (q, inside (dec_lt q b), ends)
  where
    q : ℕ
    q = b - suc (count_leading_zeros b w)

    ends : Last w (b - suc (count_leading_zeros b w))
    ends = last-leading b w (some-pos w p o) h

    inside : Dec (b - suc (count_leading_zeros b w) < b) → b - suc (count_leading_zeros b w) < b
    inside (yes a) = a
    inside (no a) = absurd (zero_one (bits_below b w h q (omega arith)) ends.one)

module _ (C : ℕ → Type 0) (zero_in : C 0) (closed : (a b : ℕ) → C a → C b → C (bit_xor a b)) where
  -- sums of codewords are codewords
  sums-in : (rows : List ℕ) → ((j : ℕ) → j < length rows → C (get_or rows j 0)) → (u : ℕ) → C (sum_of rows u)
  sums-in [] h u = zero_in
  sums-in (r ∷ rs) h u = closed _ _ (one (u % 2)) (sums-in rs (λ j k. h (suc j) (suc-le-suc k)) (u / 2))
    where
      one : (d : ℕ) → C (taken d r)
      one zero = zero_in
      one (suc d) = h 0 (suc-le-suc zero-le)

  module _ (rows : List ℕ) (f l : ℕ → ℕ) (p : RowsOf C rows f l) where
    -- the row of a codeword's head ends no later than the codeword, so their sum is no longer
    no_longer : (b w q r m : ℕ) → RowFor C q r m → C w → First w q → w < 2 ^ b → bit_xor r w < 2 ^ b
    no_longer b w q r m row c first h =
        let e = last-below b w q h first.one in
        let sooner : m ≤ e.0 = row.soonest w e.0 c first e.2 in
        below-bits b (bit_xor r w) (λ i a. bit-xor i r w ∙ ap₂ differ (row.ends.zeros i (omega (arith, e.1))) (bits_below b w h i a))

    -- A codeword below 2 ^ b that is zero before q, with m positions to go: the row of its head is added, until nothing is left
    reduce : (b m q w : ℕ) → b ≤ m + q → w < 2 ^ b → ((i : ℕ) → i < q → bit w i ≡ 0) → C w → IsSum rows w
    reduce b zero q w e h z c = subst (IsSum rows) (sym (bits-zero w (λ i. side i (dec_lt i q)))) (in-zero rows)
      where
        side : (i : ℕ) → Dec (i < q) → bit w i ≡ 0
        side i (yes a) = z i a
        side i (no a) = bits_below b w h i (omega arith)
    reduce b (suc m) q w e h z c = go (bit-cases w q) (λ v. reduce b m (suc q) v (omega arith))
      where
        Rest : Type 0
        Rest = (v : ℕ) → v < 2 ^ b → ((i : ℕ) → i < suc q → bit v i ≡ 0) → C v → IsSum rows v

        add : First w q → (j : ℕ) → j < length rows → f j ≡ q → Rest → IsSum rows w
        add first j k a rest =
            let row : RowFor C q (get_or rows j 0) (l j) = subst (λ (x : ℕ). RowFor C x (get_or rows j 0) (l j)) a (p.row j k) in
            let v : ℕ = bit_xor (get_or rows j 0) w in
            subst (IsSum rows) (xor-cancel (get_or rows j 0) w) (in-xor (in_row rows j)
            (rest v (no_longer b w q (get_or rows j 0) (l j) row c first h) (both_first (get_or rows j 0) w q row.begins first)
            (closed (get_or rows j 0) w row.codeword c)))

        go : (bit w q ≡ 0) ⊎ (bit w q ≡ 1) → Rest → IsSum rows w
        go (inl o) rest = rest w h (up_to w q o z) c
        go (inr o) rest = let first : First w q = record { one = o; zeros = z } in let t = p.heads w q c first in add first t.0 t.1 t.2 rest

    -- the plate's rows generate the code
    pub plate-generates : (w : ℕ) → C w ↔ IsSum rows w
    plate-generates w = (
      (λ c. reduce w w 0 w (omega arith) (below-pow w) (λ i a. absurd (omega arith)) c),
      λ g. subst C g.sum (sums-in rows (λ j k. (p.row j k).codeword) g.by),
    )

-- ---- the code of a matrix is closed under sums, and has the zero word

-- the zero word
pub code-zero : (kind : Kind) (n : ℕ) (rows : List ℕ) → InCode kind n rows 0
code-zero G n rows = in-zero rows
code-zero H n rows = record { below = pow_pos n; even = λ j k. parity-zero (get_or rows j 0) }

-- the sum of two codewords
pub code-closed : (kind : Kind) (n : ℕ) (rows : List ℕ) (a b : ℕ) → InCode kind n rows a → InCode kind n rows b → InCode kind n rows (bit_xor a b)
code-closed G n rows a b x y = in-xor x y
code-closed H n rows a b x y = record {
  below = below-bits n (bit_xor a b) (λ i h. bit-xor i a b ∙ ap₂ differ (bits_below n a x.below i h) (bits_below n b y.below i h));
  even = λ j k. parity-comm (get_or rows j 0) (bit_xor a b) ∙ parity-xor a b (get_or rows j 0)
      ∙ ap₂ differ (parity-comm a (get_or rows j 0) ∙ x.even j k) (parity-comm b (get_or rows j 0) ∙ y.even j k);
}
