-- The number of live rows is k less the dimension of the codewords that are zero from t on, less that of those that are zero before t.
use borrow.Author.Tests.{le-leb, le-ltb, lt-leb, lt-ltb}
use lib.Bits.{bit_xor}
use lib.Dec.{T, leb, leb→le, le→leb, ltb, ltb→lt, lt→ltb}
use lib.ListN.{get_or, length}
use mathlib.Core.Bool.{◌&&◌, Bool, false, true}
use mathlib.Core.List.{List, [], ◌∷◌}
use mathlib.Core.Logic.{inl, inr, ◌↔◌, ◌⊎◌}
use mathlib.Core.Path.{ap, ap₂, refl, subst, sym, ◌∙◌, ◌≡◌}
use native.Mathlib.Decide.{dec_lt}
use native.Mathlib.Omega.{arith}
use Prim.Native.Nat.{◌%◌, ◌*◌, ◌+◌, ◌/◌, ◌<◌, suc, suc-le-suc, zero, zero-le, ℕ, ◌≤◌}
use Rattle.plates.specs.Dimension.{Dimension}
use Rattle.plates.specs.Profile.{live}
use Rattle.words.proofs.Choice.{spread-injective, spread-zero}
use Rattle.words.proofs.Span.{encode_injective, same_taken, zero-before, zero-from, zero_one}
use Rattle.words.proofs.Sums.{sum-agree, sum-zero}
use Rattle.words.proofs.Word.{bit-zero, half}
use Rattle.words.specs.Choice.{count, gather, more, pull, put, spread}
use Rattle.words.specs.Span.{Spans}
use Rattle.words.specs.Sum.{IsSum, sum_of, taken}
use Rattle.words.specs.Word.{bit}

abbrev add : Bool → ℕ → List ℕ → List ℕ
add true r rs = r ∷ rs
add false r rs = rs

-- the rows that pass
abbrev pub keep : (ℕ → Bool) → List ℕ → List ℕ
keep P [] = []
keep P (r ∷ rs) = add (P 0) r (keep (λ j. P (suc j)) rs)

keep-length : (P : ℕ → Bool) (rows : List ℕ) → length (keep P rows) ≡ count (length rows) P
keep-length P [] = refl
keep-length P (r ∷ rs) = go (P 0) (keep-length (λ j. P (suc j)) rs)
  where
    go : (b : Bool) → length (keep (λ j. P (suc j)) rs) ≡ count (length rs) (λ j. P (suc j)) → length (add b r (keep (λ j. P (suc j)) rs)) ≡ more b (count (length rs) (λ j. P (suc j)))
    go true e = ap suc e
    go false e = e

-- a sum of the rows that pass is one of all rows
keep-spread : (P : ℕ → Bool) (rows : List ℕ) (u : ℕ) → sum_of rows (spread (length rows) P u) ≡ sum_of (keep P rows) u
keep-spread P [] u = refl
keep-spread P (r ∷ rs) u = go (P 0) (keep-spread (λ j. P (suc j)) rs)
  where
    S : ℕ → ℕ
    S = spread (length rs) (λ j. P (suc j))

    go : (b : Bool) → ((u : ℕ) → sum_of rs (S u) ≡ sum_of (keep (λ j. P (suc j)) rs) u) → sum_of (r ∷ rs) (put b S u) ≡ sum_of (add b r (keep (λ j. P (suc j)) rs)) u
    go true ih =
        let e : (S (u / 2) * 2 + u % 2) % 2 ≡ u % 2 = omega arith in
        ap₂ (λ (x y : ℕ). bit_xor (taken x r) (sum_of rs y)) e (half (S (u / 2)) (u % 2) (omega arith)) ∙ ap (bit_xor (taken (u % 2) r)) (ih (u / 2))
    go false ih =
        let e : S u * 2 % 2 ≡ 0 = omega arith in
        let f : S u * 2 / 2 ≡ S u = omega arith in
        ap₂ (λ (x y : ℕ). bit_xor (taken x r) (sum_of rs y)) e f ∙ ih u

-- and a sum that takes only rows that pass is one of those
keep-gather : (P : ℕ → Bool) (rows : List ℕ) (u : ℕ) → ((j : ℕ) → j < length rows → (T (P j) → ⊥) → bit u j ≡ 0) → sum_of (keep P rows) (gather (length rows) P u) ≡ sum_of rows u
keep-gather P [] u h = refl
keep-gather P (r ∷ rs) u h = go (P 0) (h 0 (suc-le-suc zero-le)) (keep-gather (λ j. P (suc j)) rs (u / 2) (λ j l. h (suc j) (suc-le-suc l)))
  where
    G : ℕ
    G = gather (length rs) (λ j. P (suc j)) (u / 2)

    go : (b : Bool) → ((T b → ⊥) → u % 2 ≡ 0) → sum_of (keep (λ j. P (suc j)) rs) G ≡ sum_of rs (u / 2)
        → sum_of (add b r (keep (λ j. P (suc j)) rs)) (pull b (u % 2) G) ≡ sum_of (r ∷ rs) u
    go true z ih =
        let e : (G * 2 + u % 2) % 2 ≡ u % 2 = omega arith in
        ap₂ (λ (x y : ℕ). bit_xor (taken x r) (sum_of (keep (λ j. P (suc j)) rs) y)) e (half G (u % 2) (omega arith)) ∙ ap (bit_xor (taken (u % 2) r)) ih
    go false z ih = ih ∙ sym (ap (λ (d : ℕ). bit_xor (taken d r) (sum_of rs (u / 2))) (z (λ t. t)))

-- ---- the codewords that are zero on one side of t

not-passed : (b : Bool) {A : Type 0} → (T b → A) → ((T b → ⊥) → A) → A
not-passed true f g = f tt
not-passed false f g = g (λ t. t)

not-less : (a b : ℕ) → (T (ltb a b) → ⊥) → b ≤ a
not-less a b n = go (dec_lt a b)
  where
    go : Dec (a < b) → b ≤ a
    go (yes h) = absurd (n (lt→ltb a b h))
    go (no h) = omega arith

not-le : (a b : ℕ) → (T (leb a b) → ⊥) → b < a
not-le a b n = go (dec_lt b a)
  where
    go : Dec (b < a) → b < a
    go (yes h) = h
    go (no h) = absurd (n (le→leb a b (omega arith)))

-- a sum is zero where each row is, or is not taken
zero-sum : (rows : List ℕ) (p u : ℕ) → ((j : ℕ) → j < length rows → (bit (get_or rows j 0) p ≡ 0) ⊎ (bit u j ≡ 0)) → bit (sum_of rows u) p ≡ 0
zero-sum rows p u h = sum-agree rows p u 0 (λ j k. side j (h j k)) ∙ ap (λ (x : ℕ). bit x p) (sum-zero rows) ∙ bit-zero p
  where
    side : (j : ℕ) → (bit (get_or rows j 0) p ≡ 0) ⊎ (bit u j ≡ 0) → (bit (get_or rows j 0) p ≡ 0) ⊎ (bit u j ≡ bit 0 j)
    side j (inl e) = inl e
    side j (inr e) = inr (e ∙ sym (bit-zero j))

-- of three tests just one passes at each place
three : (k : ℕ) (P Q R : ℕ → Bool) → ((j : ℕ) → j < k → more (P j) 0 + more (Q j) 0 + more (R j) 0 ≡ 1) → count k P + count k Q + count k R ≡ k
three zero P Q R h = refl
three (suc k) P Q R h =
    let ih = three k (λ j. P (suc j)) (λ j. Q (suc j)) (λ j. R (suc j)) (λ j l. h (suc j) (suc-le-suc l)) in
    omega (arith, h 0 (suc-le-suc zero-le), more-add (P 0) (count k (λ j. P (suc j))), more-add (Q 0) (count k (λ j. Q (suc j))), more-add (R 0) (count k (λ j. R (suc j))))
  where
    more-add : (b : Bool) (n : ℕ) → more b n ≡ more b 0 + n
    more-add true n = omega arith
    more-add false n = omega arith

module _ (rows : List ℕ) (f l : ℕ → ℕ) (s : Spans rows f l) where
  pub some-dimension : (P : ℕ → Bool) (S : ℕ → Type 0) → ((u : ℕ) → ((j : ℕ) → j < length rows → (T (P j) → ⊥) → bit u j ≡ 0) ↔ S (sum_of rows u))
      → ((w : ℕ) → S w → IsSum rows w) → Dimension S (count (length rows) P)
  some-dimension P S h inside = record {
    basis = keep P rows;
    size = keep-length P rows;
    spans = λ w. (
      (λ g. subst S (keep-spread P rows g.by ∙ g.sum) ((h (spread (length rows) P g.by)).0 (λ j k n. spread-zero (length rows) P g.by j k n))),
      λ q. (let g = inside w q in
          record { by = gather (length rows) P g.by; sum = keep-gather P rows g.by ((h g.by).1 (subst S (sym g.sum) q)) ∙ g.sum }),
    );
    different = λ u v hu hv e.
        spread-injective (length rows) P u v hu hv
        (λ j k t. same_taken rows f l s (spread (length rows) P u) (spread (length rows) P v) (keep-spread P rows u ∙ e ∙ sym (keep-spread P rows v)) j k);
  }

  -- the words of the code that are zero from t on, and those that are zero before t
  pub dimension-from : (t : ℕ) → Dimension (λ w. IsSum rows w × ((i : ℕ) → t ≤ i → bit w i ≡ 0)) (count (length rows) (λ j. ltb (l j) t))
  dimension-from t =
      some-dimension (λ j. ltb (l j) t) (λ w. IsSum rows w × ((i : ℕ) → t ≤ i → bit w i ≡ 0))
      (λ u. (
        (λ h. (record { by = u; sum = refl }, λ i b. zero-sum rows i u (λ j k. not-passed (ltb (l j) t) (λ a. inl ((s.last j k).zeros i (omega (arith, ltb→lt (l j) t a)))) (λ n. inr (h j k n))))),
        λ q j k n. zero-from rows f l s u t q.1 j k (not-less (l j) t n),
      )) (λ w q. q.0)

  pub dimension-before : (t : ℕ) → Dimension (λ w. IsSum rows w × ((i : ℕ) → i < t → bit w i ≡ 0)) (count (length rows) (λ j. leb t (f j)))
  dimension-before t =
      some-dimension (λ j. leb t (f j)) (λ w. IsSum rows w × ((i : ℕ) → i < t → bit w i ≡ 0))
      (λ u. (
        (λ h. (record { by = u; sum = refl }, λ i b. zero-sum rows i u (λ j k. not-passed (leb t (f j)) (λ a. inl ((s.first j k).zeros i (omega (arith, leb→le t (f j) a)))) (λ n. inr (h j k n))))),
        λ q j k n. zero-before rows f l s u t q.1 j k (not-le t (f j) n),
      )) (λ w q. q.0)

  pub whole-dimension : Dimension (IsSum rows) (length rows)
  whole-dimension = record {
    basis = rows;
    size = refl;
    spans = λ w. ((λ g. g), λ g. g);
    different = encode_injective rows f l s;
  }

  -- s(t) = k - dim (zero from t on) - dim (zero before t)
  pub profile : (t : ℕ) → count (length rows) (live f l t) + count (length rows) (λ j. ltb (l j) t) + count (length rows) (λ j. leb t (f j)) ≡ length rows
  profile t = three (length rows) (live f l t) (λ j. ltb (l j) t) (λ j. leb t (f j)) (λ j k. one j (le j k))
    where
      -- a row begins where it ends, or before
      le : (j : ℕ) → j < length rows → f j ≤ l j
      le j k = go (dec_lt (l j) (f j))
        where
          go : Dec (l j < f j) → f j ≤ l j
          go (no n) = omega arith
          go (yes b) = absurd (zero_one ((s.first j k).zeros (l j) b) (s.last j k).one)

      one : (j : ℕ) → f j ≤ l j → more ((ltb (f j) t && leb t (l j))) 0 + more (ltb (l j) t) 0 + more (leb t (f j)) 0 ≡ 1
      one j h = go (dec_lt (f j) t) (dec_lt (l j) t)
        where
          go : Dec (f j < t) → Dec (l j < t) → more ((ltb (f j) t && leb t (l j))) 0 + more (ltb (l j) t) 0 + more (leb t (f j)) 0 ≡ 1
          go (yes x) (yes y) = simp (lt-ltb (f j) t x, lt-leb t (l j) y, lt-ltb (l j) t y, lt-leb t (f j) x)
          go (yes x) (no y) = simp (lt-ltb (f j) t x, le-leb t (l j) (omega arith), le-ltb (l j) t (omega arith), lt-leb t (f j) x)
          go (no x) y = simp (le-ltb (f j) t (omega arith), le-leb t (l j) (omega arith), le-ltb (l j) t (omega arith), le-leb t (f j) (omega arith))
