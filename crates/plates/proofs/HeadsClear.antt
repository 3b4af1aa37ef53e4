-- The rows by rising last ones, each held against the heads of those before it: no one in common exactly if the rows are cleared.
use lib.Bits.{and_zero_l, bit_and, bit_or, or_zero_r}
use lib.ListN.{get_or, length}
use mathlib.Core.List.{List}
use mathlib.Core.Logic.{inl, inr, ◌⊎◌}
use mathlib.Core.Path.{ap, refl, subst, sym, ◌∙◌, ◌≡◌}
use native.Mathlib.Decide.{dec_lt, ℕ_discrete}
use native.Mathlib.Omega.{arith}
use Prim.Native.Nat.{◌+◌, ◌<◌, ◌^◌, max, ℕ, ◌≤◌}
use Rattle.plates.proofs.OneCheck.{pow-here, pow-other}
use Rattle.plates.specs.Reduced.{Reduced}
use Rattle.plates.specs.Tested.{Cleared, HeadWord, HeadsOf, RowEnding, Standing, no_row, row_at}
use Rattle.words.proofs.Ends.{one-before, some-pos}
use Rattle.words.proofs.Masks.{apart-zero, bit-or, zero-apart}
use Rattle.words.proofs.Span.{lt-tri, zero_one}
use Rattle.words.proofs.Word.{bit-lt, bit-zero}
use Rattle.words.specs.Ends.{firsts, lasts}
use Rattle.words.specs.Span.{Spans}
use Rattle.words.specs.Word.{bit}

-- ---- words with ones at heads

-- no row's head
pub heads-none : (rows : List ℕ) (Q : ℕ → Type 0) → ((j : ℕ) → j < length rows → Q j → ⊥) → HeadsOf rows Q 0
heads-none rows Q n = record { all = λ j l q. absurd (n j l q); only = λ p e. absurd (zero_one (bit-zero p) e) }

-- the same rows by another test
pub heads-same : {rows : List ℕ} {w : ℕ} (Q R : ℕ → Type 0) → HeadsOf rows Q w
    → ((j : ℕ) → j < length rows → Q j → R j) → ((j : ℕ) → j < length rows → R j → Q j) → HeadsOf rows R w
heads-same Q R h f g = record {
  all = λ j l r. h.all j l (g j l r);
  only = λ p e. (let j = h.only p e in (j.0, j.1, f j.0 j.1 j.2, j.3));
}

-- one row more
pub heads-join : {rows : List ℕ} {w r : ℕ} (Q R : ℕ → Type 0) (j : ℕ) → j < length rows → HeadWord (get_or rows j 0) r → 0 < get_or rows j 0 → HeadsOf rows Q w
    → ((i : ℕ) → i < length rows → Q i → R i) → R j → ((i : ℕ) → i < length rows → R i → Q i ⊎ (i ≡ j)) → HeadsOf rows R (bit_or w r)
heads-join {rows} {w} {r} Q R j l hw some h keep new back = record { all = λ i m q. one i m (back i m q); only = λ p e. out p e (ℕ_discrete (firsts rows j) p) }
  where
    at : (p : ℕ) → bit (bit_or w r) p ≡ max (bit w p) (bit (2 ^ firsts rows j) p)
    at p = bit-or p w r ∙ ap (λ (x : ℕ). max (bit w p) (bit x p)) (hw.some some)

    one : (i : ℕ) → i < length rows → Q i ⊎ (i ≡ j) → bit (bit_or w r) (firsts rows i) ≡ 1
    one i m (inl q) = omega (arith, at (firsts rows i), h.all i m q, bit-lt (firsts rows i) (2 ^ firsts rows j))
    one i m (inr e) = subst (λ (x : ℕ). bit (bit_or w r) (firsts rows x) ≡ 1) (sym e) (omega (arith, at (firsts rows j), pow-here (firsts rows j), bit-lt (firsts rows j) w))

    out : (p : ℕ) → bit (bit_or w r) p ≡ 1 → Dec (firsts rows j ≡ p) → (i : ℕ) × (i < length rows) × R i × (firsts rows i ≡ p)
    out p e (yes q) = (j, l, new, q)
    out p e (no d) =
        let z : bit w p ≡ 1 = omega (arith, at p, pow-other (firsts rows j) p d, e) in
        let i = h.only p z in
        (i.0, i.1, keep i.0 i.1 i.2, i.3)

-- ---- the heads of rows taken one by one

-- the rows that end before t are cleared, and the word has their heads
pub record ClearedTo (rows : List ℕ) (t heads : ℕ) : Type 0 where
  pub ended : HeadsOf rows (λ j. lasts rows j < t) heads
  pub clear : (i j : ℕ) → i < length rows → j < length rows → lasts rows i < t → lasts rows j < lasts rows i → bit (get_or rows i 0) (firsts rows j) ≡ 0

module _ (rows : List ℕ) (s : Spans rows (firsts rows) (lasts rows)) where
  positive : (j : ℕ) → j < length rows → 0 < get_or rows j 0
  positive j l = some-pos (get_or rows j 0) (firsts rows j) (s.first j l).one

  -- row i's head joins those before it
  pub heads-next : {i w r : ℕ} → i < length rows → HeadWord (get_or rows i 0) r → HeadsOf rows (λ j. j < i) w → HeadsOf rows (λ j. j < i + 1) (bit_or w r)
  heads-next {i} l hw h = heads-join (λ j. j < i) (λ j. j < i + 1) i l hw (positive i l) h (λ j m b. omega arith) (omega arith) (λ j m b. side j b (dec_lt j i))
    where
      side : (j : ℕ) → j < i + 1 → Dec (j < i) → (j < i) ⊎ (j ≡ i)
      side j b (yes d) = inl d
      side j b (no d) = inr (omega arith)

  pub cleared-none : ClearedTo rows 0 0
  cleared-none = record { ended = heads-none rows (λ j. lasts rows j < 0) (λ j l q. omega arith); clear = λ i j k l a b. absurd (omega arith) }

  module _ (t heads : ℕ) (c : ClearedTo rows t heads) where
    pub cleared_more : {row r : ℕ} → RowEnding rows t row → bit_and row heads ≡ 0 → HeadWord row r → ClearedTo rows (t + 1) (bit_or heads r)
    cleared_more {r = r} (no_row n) z hw = record {
      ended = subst (HeadsOf rows (λ j. lasts rows j < t + 1)) (sym (ap (bit_or heads) (hw.none refl) ∙ or_zero_r heads))
          (heads-same (λ j. lasts rows j < t) (λ j. lasts rows j < t + 1) c.ended (λ j l b. omega arith) (λ j l b. sooner j (n j l) b));
      clear = λ i j k l a b. c.clear i j k l (sooner i (n i k) a) b;
    }
      where
        sooner : (j : ℕ) → (lasts rows j ≡ t → ⊥) → lasts rows j < t + 1 → lasts rows j < t
        sooner j n b = omega (arith, n)
    cleared_more {r = r} (row_at j l q) z hw = record {
      ended = heads-join (λ i. lasts rows i < t) (λ i. lasts rows i < t + 1) j l hw (positive j l) c.ended
          (λ i m b. omega arith) (omega arith) (λ i m b. which i m b (dec_lt (lasts rows i) t));
      clear = λ i x k m a b. here i x k m b (which i k a (dec_lt (lasts rows i) t));
    }
      where
        which : (i : ℕ) → i < length rows → lasts rows i < t + 1 → Dec (lasts rows i < t) → (lasts rows i < t) ⊎ (i ≡ j)
        which i m b (yes d) = inl d
        which i m b (no d) = inr (s.apart i j m l (omega arith))

        here : (i x : ℕ) → i < length rows → x < length rows → lasts rows x < lasts rows i → (lasts rows i < t) ⊎ (i ≡ j) → bit (get_or rows i 0) (firsts rows x) ≡ 0
        here i x k m b (inl a) = c.clear i x k m a b
        here i x k m b (inr y) =
            subst (λ (v : ℕ). bit (get_or rows v 0) (firsts rows x) ≡ 0) (sym y)
            (apart-zero (get_or rows j 0) heads (firsts rows x) z (c.ended.all x m (omega (arith, ap (lasts rows) y))))

    -- a row that has a one at a head of a row that ended before
    pub cleared-stop : {row : ℕ} → RowEnding rows t row → (bit_and row heads ≡ 0 → ⊥) → Cleared rows → ⊥
    cleared-stop (no_row z) n g = n (and_zero_l heads)
    cleared-stop (row_at j l q) n g = n (zero-apart (get_or rows j 0) heads (λ p h. at p (c.ended.only p h)))
      where
        at : (p : ℕ) → (i : ℕ) × (i < length rows) × (lasts rows i < t) × (firsts rows i ≡ p) → bit (get_or rows j 0) p ≡ 0
        at p i = subst (λ (x : ℕ). bit (get_or rows j 0) x ≡ 0) i.3 (g.clear j i.0 l i.1 (omega (arith, i.2)))

  -- rows are in reduced form exactly if they are cleared: a row has 0 before its head
  pub cleared-reduced : Cleared rows → Reduced rows (firsts rows) (lasts rows)
  cleared-reduced c = record { spans = s; reduced = λ i j h l b. c.clear i j (omega arith) l b }

  pub reduced-cleared : Reduced rows (firsts rows) (lasts rows) → Cleared rows
  reduced-cleared g = record { clear = λ i j k l b. side i j k l b (lt-tri i j) }
    where
      side : (i j : ℕ) → i < length rows → j < length rows → lasts rows j < lasts rows i → (i < j) ⊎ ((i ≡ j) ⊎ (j < i)) → bit (get_or rows i 0) (firsts rows j) ≡ 0
      side i j k l b (inl h) = g.reduced i j h l b
      side i j k l b (inr (inl e)) = absurd (omega (arith, ap (lasts rows) e))
      side i j k l b (inr (inr h)) = (s.first i k).zeros (firsts rows j) (s.rising j i h k)

-- rows below 2 ^ n have all ended at n
module _ (n : ℕ) (rows : List ℕ) (s : Standing n rows) where
  pub last-below : (j : ℕ) → j < length rows → lasts rows j < n
  last-below j l = one-before n (get_or rows j 0) (lasts rows j) (s.below j l) (s.spans.last j l).one

  -- so then all rows are cleared
  pub cleared-all : (t heads : ℕ) → n ≤ t → ClearedTo rows t heads → Cleared rows
  cleared-all t heads h c = record { clear = λ i j k l b. c.clear i j k l (omega (arith, last-below i k)) b }
