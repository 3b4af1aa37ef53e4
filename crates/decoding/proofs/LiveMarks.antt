-- The live rows at a depth and the active rows of a section, as bits of a number: they differ by the row that begins and the row that ends.
use borrow.Author.Tests.{le-leb, le-ltb, lt-leb, lt-ltb}
use lib.Dec.{leb, ltb}
use lib.ListN.{get_or, length}
use mathlib.Core.Bool.{◌&&◌, Bool, cond, false, true}
use mathlib.Core.List.{List, [], ◌∷◌}
use mathlib.Core.Path.{ap, ap₂, refl, sym, ◌∙◌, ◌≡◌}
use native.Mathlib.Decide.{dec_lt}
use native.Mathlib.Nat.{pow-suc}
use native.Mathlib.Omega.{arith}
use Prim.Native.Nat.{◌*◌, ◌+◌, ◌<◌, ◌^◌, suc, suc-le-suc, zero, zero-le, ℕ, ◌≤◌}
use Rattle.decoding.specs.LiveRows.{EndsAre, active_marks, is_live, live_marks, mark_of, marks}
use Rattle.trellises.proofs.OneBegins.{ordered}
use Rattle.trellises.proofs.OneMoreRow.{active-ends, and-false, live-next, live_now}
use Rattle.trellises.specs.SectionOf.{is_active}
use Rattle.words.proofs.Span.{rising-apart}
use Rattle.words.proofs.Word.{bits_below, half}
use Rattle.words.specs.Ends.{first, firsts, last, lasts}
use Rattle.words.specs.Span.{Last, Spans}
use Rattle.words.specs.Word.{bit}

-- ---- rows marked by a test

module _ (P : ℕ → Bool) where
  digit-of : (b : Bool) → cond b 1 0 < 2
  digit-of true = omega arith
  digit-of false = omega arith

  -- bit j says whether row j passes
  pub marks-bit : (rows : List ℕ) (j : ℕ) → j < length rows → bit (marks P rows) j ≡ cond (P (get_or rows j 0)) 1 0
  marks-bit [] j h = absurd (omega arith)
  marks-bit (row ∷ rows) zero h = let d = digit-of (P row) in omega arith
  marks-bit (row ∷ rows) (suc j) h =
      ap (λ (x : ℕ). bit x j) (half (marks P rows) (cond (P row) 1 0) (digit-of (P row))) ∙ marks-bit rows j (omega arith)

  pub marks-below : (rows : List ℕ) → marks P rows < 2 ^ length rows
  marks-below [] = omega arith
  marks-below (row ∷ rows) = omega (arith, marks-below rows, digit-of (P row), pow-suc 2 (length rows))

  pub marks-none : (rows : List ℕ) → ((j : ℕ) → j < length rows → P (get_or rows j 0) ≡ false) → marks P rows ≡ 0
  marks-none [] h = refl
  marks-none (row ∷ rows) h = rw (h 0 (suc-le-suc zero-le), marks-none rows (λ j l. h (suc j) (suc-le-suc l)))

  module _ (Q : ℕ → Bool) where
    pub marks-same : (rows : List ℕ) → ((j : ℕ) → j < length rows → P (get_or rows j 0) ≡ Q (get_or rows j 0)) → marks P rows ≡ marks Q rows
    marks-same [] h = refl
    marks-same (row ∷ rows) h =
        ap₂ (λ (b : Bool) (m : ℕ). m * 2 + cond b 1 0) (h 0 (suc-le-suc zero-le)) (marks-same rows (λ j l. h (suc j) (suc-le-suc l)))

    -- one row more passes
    pub marks-more : (rows : List ℕ) (j : ℕ) → j < length rows → ((i : ℕ) → i < length rows → (i ≡ j → ⊥) → P (get_or rows i 0) ≡ Q (get_or rows i 0))
        → P (get_or rows j 0) ≡ false → Q (get_or rows j 0) ≡ true → marks P rows + 2 ^ j ≡ marks Q rows
    marks-more [] j h same p q = absurd (omega arith)
    marks-more (row ∷ rows) zero h same p q =
        rw (p, q) (omega (arith, marks-same rows (λ i l. same (suc i) (suc-le-suc l) (λ e. omega arith))))
    marks-more (row ∷ rows) (suc j) h same p q =
        rw (same 0 (suc-le-suc zero-le) (λ e. omega arith))
        (omega (arith, pow-suc 2 j, marks-more rows j (omega arith) (λ i l n. same (suc i) (suc-le-suc l) (λ e. n (omega arith))) p q))

-- ---- one row

and_same : (a b : Bool) → (a ≡ true → b ≡ true) → (a && b) ≡ a
and_same true b h = h refl
and_same false b h = refl

module _ (t row : ℕ) where
  -- a row that does not end at t is live behind section t if it is active there
  goes_on : (last row ≡ t → ⊥) → is_live (suc t) row ≡ is_active t row
  goes_on h =
      live-next t row ∙ and_same (is_active t row) (ltb t (last row)) (λ e. let a = active-ends t row e in lt-ltb t (last row) (omega arith))

  -- a row that does not begin at t is live before section t if it is active there
  went_on : (first row ≡ t → ⊥) → is_live t row ≡ is_active t row
  went_on h =
      live_now t row ∙ and_same (is_active t row) (ltb (first row) t) (λ e. let a = active-ends t row e in lt-ltb (first row) t (omega arith))

  is-active : first row ≤ t → t ≤ last row → is_active t row ≡ true
  is-active f l = rw (le-leb (first row) t f, le-leb t (last row) l)

  ended : last row ≡ t → is_live (suc t) row ≡ false
  ended e = rw (lt-leb (suc t) (last row) (omega arith)) (and-false (ltb (first row) (suc t)))

  not-begun : first row ≡ t → is_live t row ≡ false
  not-begun e = rw (le-ltb (first row) t (omega arith))

-- ---- all rows of a plate

module _ (rows : List ℕ) (s : Spans rows (firsts rows) (lasts rows)) where
  pub in_order : (j : ℕ) → j < length rows → firsts rows j ≤ lasts rows j
  in_order j h = ordered (s.first j h) (s.last j h)

  -- behind section t the row that ends there is live no more
  pub with-ending : (ends : List ℕ) (t : ℕ) → EndsAre rows ends → t < 64 → live_marks rows (suc t) + mark_of (get_or ends t 0) ≡ active_marks rows t
  with-ending ends t e h = go (get_or ends t 0) refl
    where
      go : (n : ℕ) → get_or ends t 0 ≡ n → live_marks rows (suc t) + mark_of n ≡ active_marks rows t
      go zero q = omega (arith, marks-same (is_live (suc t)) (is_active t) rows (λ j l. goes_on t (get_or rows j 0) (e.none t h q j l)))
      go (suc j) q =
          let a = e.some t j h q in
          marks-more (is_live (suc t)) (is_active t) rows j a.0
          (λ i l n. goes_on t (get_or rows i 0) (λ p. n (s.apart i j l a.0 (p ∙ sym a.1))))
          (ended t (get_or rows j 0) a.1)
          (is-active t (get_or rows j 0) (omega (arith, in_order j a.0)) (omega arith))

  -- before it the row that begins there is not live yet
  pub with-beginning : (t j : ℕ) → j < length rows → firsts rows j ≡ t → live_marks rows t + 2 ^ j ≡ active_marks rows t
  with-beginning t j h e =
      marks-more (is_live t) (is_active t) rows j h
      (λ i l n. went_on t (get_or rows i 0) (λ p. n (rising-apart (length rows) (firsts rows) s.rising i j l h (p ∙ sym e))))
      (not-begun t (get_or rows j 0) e)
      (is-active t (get_or rows j 0) (omega arith) (omega (arith, in_order j h)))

  -- and no row more, where none begins
  pub without-beginning : (t : ℕ) → ((j : ℕ) → j < length rows → firsts rows j ≡ t → ⊥) → live_marks rows t ≡ active_marks rows t
  without-beginning t n = marks-same (is_live t) (is_active t) rows (λ j l. went_on t (get_or rows j 0) (n j l))

  -- the row that begins is the last one that is active
  pub last-active : (t j : ℕ) → j < length rows → firsts rows j ≡ t → Last (active_marks rows t) j
  last-active t j h e = record {
    one = marks-bit (is_active t) rows j h ∙ ap (λ (b : Bool). cond b 1 0) (is-active t (get_or rows j 0) (omega arith) (omega (arith, in_order j h)));
    zeros = λ i g. go i g (dec_lt i (length rows));
  }
    where
      go : (i : ℕ) → j < i → Dec (i < length rows) → bit (active_marks rows t) i ≡ 0
      go i g (yes l) =
          marks-bit (is_active t) rows i l
          ∙ ap (λ (b : Bool). cond (b && leb t (lasts rows i)) 1 0) (lt-leb (firsts rows i) t (omega (arith, s.rising j i g l)))
      go i g (no l) = bits_below (length rows) (active_marks rows t) (marks-below (is_active t) rows) i (omega arith)

-- ---- at either end no row is live

pub none-live-first : (rows : List ℕ) → live_marks rows 0 ≡ 0
none-live-first rows =
    marks-none (is_live 0) rows (λ j l. ap (λ (b : Bool). b && leb 0 (lasts rows j)) (le-ltb (firsts rows j) 0 zero-le))

pub none-live-last : (rows : List ℕ) (n : ℕ) → ((j : ℕ) → j < length rows → lasts rows j < n) → live_marks rows n ≡ 0
none-live-last rows n h =
    marks-none (is_live n) rows (λ j l. ap (λ (b : Bool). ltb (firsts rows j) n && b) (lt-leb n (lasts rows j) (h j l)) ∙ and-false (ltb (firsts rows j) n))
