-- No two plate rows share a last one, and a row has 0 where a row inside its span begins: so says the paper's wording, for any code that
-- is closed under sums.
use lib.Bits.{bit_xor}
use lib.Count.{count_leading_zeros}
use lib.ListN.{get_or, length}
use mathlib.Core.List.{List}
use mathlib.Core.Logic.{inl, inr, ◌⊎◌}
use mathlib.Core.Path.{ap, subst, sym, ◌∙◌, ◌≡◌}
use native.Mathlib.Nat.{pow-suc}
use native.Mathlib.Omega.{arith}
use Prim.Native.Nat.{◌-◌, ◌<◌, ◌^◌, suc, zero, ℕ, ◌≤◌}
use Rattle.plates.specs.Heads.{RowsOf}
use Rattle.plates.specs.Reduced.{Reduced}
use Rattle.words.proofs.Ends.{last-leading, some-pos}
use Rattle.words.proofs.Span.{lt-tri, zero_one}
use Rattle.words.proofs.Steps.{clears, keeps_below, keeps-first, keeps-last, last-falls}
use Rattle.words.proofs.Word.{bit-cases}
use Rattle.words.specs.Span.{Apart, First, Last, Spans}
use Rattle.words.specs.Word.{Earlier, bit}

below-pow : (w : ℕ) → w < 2 ^ w
below-pow zero = omega arith
below-pow (suc w) = omega (arith, below-pow w, pow-suc 2 w)

-- a word that has a one has a last one
some-last : (w p : ℕ) → First w p → (q : ℕ) × Last w q
some-last w p h = (w - suc (count_leading_zeros w w), last-leading w w (some-pos w p h.one) (below-pow w))

module _ (C : ℕ → Type 0) (closed : (a b : ℕ) → C a → C b → C (bit_xor a b)) (rows : List ℕ) (f l : ℕ → ℕ) (p : RowsOf C rows f l) where
  -- the sum of a row with a later one begins where the row does
  sum_first : (i j : ℕ) → i < j → j < length rows → First (bit_xor (get_or rows i 0) (get_or rows j 0)) (f i)
  sum_first i j h k = keeps-first (p.row i (omega arith)).begins (p.row j k).begins (p.order i j h k)

  sum-in : (i j : ℕ) → i < j → j < length rows → C (bit_xor (get_or rows i 0) (get_or rows j 0))
  sum-in i j h k = closed _ _ (p.row i (omega arith)).codeword (p.row j k).codeword

  -- a row and a later one that end together would have a sum that ends sooner
  differ-after : (i j : ℕ) → i < j → j < length rows → l i ≡ l j → ⊥
  differ-after i j h k e =
      let s = some-last _ _ (sum_first i j h k) in
      let a : l i ≤ s.0 = (p.row i (omega arith)).soonest _ s.0 (sum-in i j h k) (sum_first i j h k) s.1 in
      let b : s.0 < l j =
      last-falls (get_or rows i 0) (get_or rows j 0) (l j) s.0 (subst (Last (get_or rows i 0)) e (p.row i (omega arith)).ends) (p.row j k).ends s.1 in
      omega arith

  pub last-ones-differ : Apart (length rows) l
  last-ones-differ i j hi hj e = go (lt-tri i j)
    where
      go : (i < j) ⊎ ((i ≡ j) ⊎ (j < i)) → i ≡ j
      go (inl h) = absurd (differ-after i j h hj e)
      go (inr (inl q)) = q
      go (inr (inr h)) = absurd (differ-after j i h hi (sym e))

  -- a row with a one where a row inside its span begins would have an earlier sum
  inside-zero : (i j : ℕ) → i < j → j < length rows → l j < l i → bit (get_or rows i 0) (f j) ≡ 1 → ⊥
  inside-zero i j h k m one = go ((p.row i (omega arith)).earliest w (sum-in i j h k) (sum_first i j h k) same_end)
    where
      w : ℕ
      w = bit_xor (get_or rows i 0) (get_or rows j 0)

      same_end : Last w (l i)
      same_end = keeps-last (p.row i (omega arith)).ends (p.row j k).ends m

      cleared : bit w (f j) ≡ 0
      cleared = clears (get_or rows i 0) (get_or rows j 0) (f j) (p.row j k).begins one

      at : (e : Earlier (get_or rows i 0) w) → (e.place < f j) ⊎ ((e.place ≡ f j) ⊎ (f j < e.place)) → ⊥
      at e (inl b) = zero_one e.zero_here (sym (keeps_below (get_or rows i 0) (get_or rows j 0) (f j) e.place (p.row j k).begins b) ∙ e.one_there)
      at e (inr (inl q)) = zero_one (subst (λ (x : ℕ). bit (get_or rows i 0) x ≡ 0) q e.zero_here) one
      at e (inr (inr b)) = zero_one (e.same (f j) b ∙ cleared) one

      go : (get_or rows i 0 ≡ w) ⊎ Earlier (get_or rows i 0) w → ⊥
      go (inl q) = zero_one (ap (λ (x : ℕ). bit x (f j)) q ∙ cleared) one
      go (inr e) = at e (lt-tri e.place (f j))

  pub rows-spans : Spans rows f l
  rows-spans = record {
    first = λ j k. (p.row j k).begins;
    last = λ j k. (p.row j k).ends;
    rising = p.order;
    apart = last-ones-differ;
  }

  pub rows-reduced : Reduced rows f l
  rows-reduced = record {
    spans = rows-spans;
    reduced = λ i j h k m. zero-by (bit-cases (get_or rows i 0) (f j)) (inside-zero i j h k m);
  }
    where
      zero-by : {x : ℕ} → (x ≡ 0) ⊎ (x ≡ 1) → (x ≡ 1 → ⊥) → x ≡ 0
      zero-by (inl e) n = e
      zero-by (inr e) n = absurd (n e)
