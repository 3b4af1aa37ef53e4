-- Rows in reduced form are the plate's rows in the paper's words: for each head the codeword that ends soonest, and of these the earliest.
use lib.Bits.{bit_xor, differ}
use lib.ListN.{get_or, length}
use mathlib.Core.List.{List}
use mathlib.Core.Logic.{inl, inr, ◌⊎◌}
use mathlib.Core.Path.{ap, subst, sym, ◌∙◌, ◌≡◌}
use native.Mathlib.Decide.{dec_lt}
use native.Mathlib.Omega.{arith}
use Prim.Native.Nat.{◌<◌, suc, ℕ, ◌≤◌}
use Rattle.plates.specs.Heads.{RowsOf}
use Rattle.plates.specs.Reduced.{Reduced}
use Rattle.words.proofs.Span.{Nothing, Top, first-unique, least, lt-tri, rising-apart, zero-from, zero_one}
use Rattle.words.proofs.Sums.{in_row, in-xor}
use Rattle.words.proofs.Word.{bit-same, bit-xor, bit-zero, differ_self, differ-zero, xor-zero-eq}
use Rattle.words.specs.Span.{Before, First, Last, Spans}
use Rattle.words.specs.Sum.{IsSum, sum_of}
use Rattle.words.specs.Word.{Earlier, bit}

-- no row that a sum takes ends after the sum does
pub ends-le : (rows : List ℕ) (f l : ℕ → ℕ) → Spans rows f l → (u p : ℕ) → Last (sum_of rows u) p → (j : ℕ) → j < length rows → bit u j ≡ 1 → l j ≤ p
ends-le rows f l s u p h j k e = go (dec_lt p (l j))
  where
    go : Dec (p < l j) → l j ≤ p
    go (no n) = omega arith
    go (yes b) = absurd (zero_one (zero-from rows f l s u (suc p) h.zeros j k b) e)

module _ (rows : List ℕ) (f l : ℕ → ℕ) (p : Reduced rows f l) where
  lowest : (u : ℕ) → (Nothing (length rows) u × (sum_of rows u ≡ 0)) ⊎ Top Before rows f u
  lowest = least rows f p.spans.first (rising-apart (length rows) f p.spans.rising)

  -- the row where a codeword begins, which it takes
  begin : (w q : ℕ) (g : IsSum rows w) → First w q → (j : ℕ) × (j < length rows) × (f j ≡ q) × (bit g.by j ≡ 1)
  begin w q g h = go (lowest g.by)
    where
      go : (Nothing (length rows) g.by × (sum_of rows g.by ≡ 0)) ⊎ Top Before rows f g.by → (j : ℕ) × (j < length rows) × (f j ≡ q) × (bit g.by j ≡ 1)
      go (inl n) = absurd (zero_one (ap (λ (x : ℕ). bit x q) (sym g.sum ∙ n.1) ∙ bit-zero q) h.one)
      go (inr t) = (t.0, t.1, first-unique (subst (λ (x : ℕ). First x (f t.0)) g.sum t.3) h, t.2)

  takes : (j : ℕ) → j < length rows → (w : ℕ) (g : IsSum rows w) → First w (f j) → bit g.by j ≡ 1
  takes j k w g h =
      let b = begin w (f j) g h in
      subst (λ (x : ℕ). bit g.by x ≡ 1) (rising-apart (length rows) f p.spans.rising b.0 j b.1 k b.2) b.3

  first-best : (j : ℕ) → j < length rows → (w : ℕ) → IsSum rows w → First w (f j) → Last w (l j) → (get_or rows j 0 ≡ w) ⊎ Earlier (get_or rows j 0) w
  first-best j k w g h e = go (lowest d.by)
    where
      r : ℕ
      r = get_or rows j 0

      d : IsSum rows (bit_xor w (get_or rows j 0))
      d = in-xor g (in_row rows j)

      hr : First (get_or rows j 0) (f j)
      hr = p.spans.first j k

      er : Last (get_or rows j 0) (l j)
      er = p.spans.last j k

      -- the sum is zero up to where both begin, and from where both end
      equal : (i : ℕ) → bit w i ≡ bit r i → bit (sum_of rows d.by) i ≡ 0
      equal i q = ap (λ (x : ℕ). bit x i) d.sum ∙ bit-xor i w r ∙ ap (λ (x : ℕ). differ x (bit r i)) q ∙ differ_self (bit r i)

      low : (i : ℕ) → i < suc (f j) → bit (sum_of rows d.by) i ≡ 0
      low i m = equal i (side (lt-tri i (f j)))
        where
          side : (i < f j) ⊎ ((i ≡ f j) ⊎ (f j < i)) → bit w i ≡ bit r i
          side (inl b) = h.zeros i b ∙ sym (hr.zeros i b)
          side (inr (inl q)) = subst (λ (x : ℕ). bit w x ≡ bit r x) (sym q) (h.one ∙ sym hr.one)
          side (inr (inr b)) = absurd (omega arith)

      high : (i : ℕ) → l j ≤ i → bit (sum_of rows d.by) i ≡ 0
      high i m = equal i (side (lt-tri i (l j)))
        where
          side : (i < l j) ⊎ ((i ≡ l j) ⊎ (l j < i)) → bit w i ≡ bit r i
          side (inl b) = absurd (omega arith)
          side (inr (inl q)) = subst (λ (x : ℕ). bit w x ≡ bit r x) (sym q) (e.one ∙ sym er.one)
          side (inr (inr b)) = e.zeros i b ∙ sym (er.zeros i b)

      go : (Nothing (length rows) d.by × (sum_of rows d.by ≡ 0)) ⊎ Top Before rows f d.by → (get_or rows j 0 ≡ w) ⊎ Earlier (get_or rows j 0) w
      go (inl n) = inl (sym (xor-zero-eq w r (sym d.sum ∙ n.1)))
      go (inr t) =
          let m : ℕ = t.0 in
          let s : First (bit_xor w r) (f m) = subst (λ (x : ℕ). First x (f m)) d.sum t.3 in
          let after : j < m = later (lt-tri j m) (dec_lt (f j) (f m)) in
          let inside : l m < l j = within (dec_lt (l m) (l j)) in
          let z : bit r (f m) ≡ 0 = p.reduced j m after t.1 inside in
          inr (record {
            place = f m;
            zero_here = z;
            one_there = sym (differ-zero (bit w (f m))) ∙ ap (differ (bit w (f m))) (sym z) ∙ sym (bit-xor (f m) w r) ∙ s.one;
            same = λ i b. sym (bit-same w r i (s.zeros i b));
          })
        where
          later : (j < t.0) ⊎ ((j ≡ t.0) ⊎ (t.0 < j)) → Dec (f j < f t.0) → j < t.0
          later (inl b) q = b
          later (inr (inl q)) c = absurd (zero_one (low (f t.0) (omega (arith, ap f q))) t.3.one)
          later (inr (inr b)) c = absurd (zero_one (low (f t.0) (omega (arith, p.spans.rising t.0 j b k))) t.3.one)

          within : Dec (l t.0 < l j) → l t.0 < l j
          within (yes b) = b
          within (no b) = absurd (zero_one (zero-from rows f l p.spans d.by (l j) high t.0 t.1 (omega arith)) t.2)

  pub plate-of : RowsOf (IsSum rows) rows f l
  plate-of = record {
    row = λ j k. record {
      codeword = in_row rows j;
      begins = p.spans.first j k;
      ends = p.spans.last j k;
      soonest = λ w q g h e. ends-le rows f l p.spans g.by q (subst (λ (x : ℕ). Last x q) (sym g.sum) e) j k (takes j k w g h);
      earliest = first-best j k;
    };
    order = p.spans.rising;
    heads = λ w q g h. (let b = begin w q g h in (b.0, b.1, b.2));
  }
