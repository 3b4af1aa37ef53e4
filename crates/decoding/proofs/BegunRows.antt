-- The rows that begin before a depth are the first so many, and one more where a section says that a row begins.
use borrow.Author.Tests.{le-ltb, lt-ltb}
use lib.Dec.{ltb}
use lib.ListN.{length}
use mathlib.Core.Bool.{Bool, false, false≢true, true}
use mathlib.Core.List.{List, [], ◌∷◌}
use mathlib.Core.Logic.{inl, inr, ◌⊎◌}
use mathlib.Core.Path.{ap, refl, sym, ◌∙◌, ◌≡◌}
use native.Mathlib.Decide.{dec_lt}
use native.Mathlib.Nat.{le_of_lt, le_refl}
use native.Mathlib.Omega.{arith}
use Prim.Native.Nat.{◌<◌, suc, suc-le-suc, zero, zero-le, ℕ, ◌≤◌}
use Rattle.decoding.specs.LiveRows.{begun_before}
use Rattle.trellises.proofs.OneBegins.{section-begins}
use Rattle.trellises.proofs.OneMoreRow.{Rising, rising-rest}
use Rattle.trellises.specs.SectionOf.{section_of}
use Rattle.trellises.specs.Smallest.{Begins}
use Rattle.words.proofs.Span.{lt-tri}
use Rattle.words.specs.Choice.{more}
use Rattle.words.specs.Ends.{first, firsts, lasts}
use Rattle.words.specs.Span.{Spans}

pub none-begun : (rows : List ℕ) → begun_before rows 0 ≡ 0
none-begun [] = refl
none-begun (row ∷ rows) = rw (le-ltb (first row) 0 zero-le) (none-begun rows)

pub all_begun : (rows : List ℕ) (n : ℕ) → ((j : ℕ) → j < length rows → firsts rows j < n) → begun_before rows n ≡ length rows
all_begun [] n h = refl
all_begun (row ∷ rows) n h = rw (lt-ltb (first row) n (h 0 (suc-le-suc zero-le))) (ap suc (all_begun rows n (λ j l. h (suc j) (suc-le-suc l))))

-- ---- the rows that begin before t

module _ (t : ℕ) where
  none_yet : (rows : List ℕ) → ((j : ℕ) → j < length rows → t ≤ firsts rows j) → begun_before rows t ≡ 0
  none_yet [] h = refl
  none_yet (row ∷ rows) h = rw (le-ltb (first row) t (h 0 (suc-le-suc zero-le))) (none_yet rows (λ j l. h (suc j) (suc-le-suc l)))

  pub begun-few : (rows : List ℕ) → begun_before rows t ≤ length rows
  begun-few [] = zero-le
  begun-few (row ∷ rows) = go (ltb (first row) t) (begun-few rows)
    where
      go : (b : Bool) {n : ℕ} → n ≤ length rows → more b n ≤ suc (length rows)
      go true h = suc-le-suc h
      go false h = omega arith

  -- row i begins before t exactly if it is one of the first so many
  pub begun-are : (rows : List ℕ) → Rising rows → (i : ℕ) → i < length rows
      → (i < begun_before rows t → firsts rows i < t) × (firsts rows i < t → i < begun_before rows t)
  begun-are [] r i h = absurd (omega arith)
  begun-are (row ∷ rows) r i h = go (dec_lt (first row) t) i h (begun-are rows (rising-rest row rows r))
    where
      go : Dec (first row < t) → (i : ℕ) → i < suc (length rows)
          → ((i : ℕ) → i < length rows → (i < begun_before rows t → firsts rows i < t) × (firsts rows i < t → i < begun_before rows t))
          → (i < begun_before (row ∷ rows) t → firsts (row ∷ rows) i < t) × (firsts (row ∷ rows) i < t → i < begun_before (row ∷ rows) t)
      go (yes l) zero h ih = rw (lt-ltb (first row) t l) ((λ g. l), (λ g. suc-le-suc zero-le))
      go (yes l) (suc i) h ih =
          rw (lt-ltb (first row) t l) ((λ g. (ih i (omega arith)).0 (omega arith)), (λ g. suc-le-suc ((ih i (omega arith)).1 g)))
      go (no l) i h ih = ((λ g. absurd (omega (arith, none_yet (row ∷ rows) later))), (λ g. absurd (omega (arith, later i h))))
        where
          later : (j : ℕ) → j < suc (length rows) → t ≤ firsts (row ∷ rows) j
          later zero m = omega arith
          later (suc j) m = omega (arith, r 0 (suc j) (suc-le-suc zero-le) m)

  -- so many are the rows with a first one before t
  begun-is : (rows : List ℕ) → Rising rows → (n : ℕ) → n ≤ length rows → ((i : ℕ) → i < n → firsts rows i < t)
      → ((i : ℕ) → n ≤ i → i < length rows → t ≤ firsts rows i) → begun_before rows t ≡ n
  begun-is rows r n h before after = go (lt-tri (begun_before rows t) n)
    where
      m : ℕ
      m = begun_before rows t

      go : (m < n) ⊎ ((m ≡ n) ⊎ (n < m)) → m ≡ n
      go (inl l) = absurd (omega (arith, (begun-are rows r m (omega arith)).1 (before m l)))
      go (inr (inl q)) = q
      go (inr (inr l)) =
          let g : n < length rows = omega (arith, begun-few rows) in
          absurd (omega (arith, after n (le_refl n) g, (begun-are rows r n g).0 l))

-- ---- the row that begins at t

module _ (rows : List ℕ) (s : Spans rows (firsts rows) (lasts rows)) (t : ℕ) where
  pub none-begins : (section_of rows t).begins ≡ false → (j : ℕ) → j < length rows → firsts rows j ≡ t → ⊥
  none-begins e j h q = false≢true (sym e ∙ (section-begins rows s t).1 (record { row = j; there = h; here = q }))

  -- where the next row to begin does not begin at t, none does
  pub next-only : (begun_before rows t < length rows → firsts rows (begun_before rows t) ≡ t → ⊥) → (j : ℕ) → j < length rows → firsts rows j ≡ t → ⊥
  next-only n j h e = go (lt-tri (begun_before rows t) j)
    where
      next : ℕ
      next = begun_before rows t

      go : (next < j) ⊎ ((next ≡ j) ⊎ (j < next)) → ⊥
      go (inl l) =
          let g : next < length rows = omega arith in
          omega (arith, (begun-are t rows s.rising next g).1 (omega (arith, s.rising next j l h)))
      go (inr (inl q)) = n (omega arith) (ap (firsts rows) q ∙ e)
      go (inr (inr l)) = omega (arith, (begun-are t rows s.rising j h).0 l)

  -- the row that begins is the next one to begin
  pub begun-row : (b : Begins rows t) → begun_before rows t ≡ b.row
  begun-row b =
      begun-is t rows s.rising b.row (le_of_lt b.there) (λ i l. omega (arith, s.rising i b.row l b.there, b.here))
      (λ i l h. from i (lt-tri i b.row) l h)
    where
      from : (i : ℕ) → (i < b.row) ⊎ ((i ≡ b.row) ⊎ (b.row < i)) → b.row ≤ i → i < length rows → t ≤ firsts rows i
      from i (inl l) h g = absurd (omega arith)
      from i (inr (inl q)) h g = omega (arith, ap (firsts rows) q, b.here)
      from i (inr (inr l)) h g = omega (arith, s.rising b.row i l g, b.here)

  -- one row more has begun behind section t, where one begins there
  pub begun-next : begun_before rows (suc t) ≡ more (section_of rows t).begins (begun_before rows t)
  begun-next = go (section_of rows t).begins refl
    where
      go : (b : Bool) → (section_of rows t).begins ≡ b → begun_before rows (suc t) ≡ more b (begun_before rows t)
      go true e = one ((section-begins rows s t).0 e)
        where
          one : Begins rows t → begun_before rows (suc t) ≡ suc (begun_before rows t)
          one b =
              begun-is (suc t) rows s.rising (suc b.row) b.there (λ i l. upto i (lt-tri i b.row) l) (λ i l h. omega (arith, s.rising b.row i l h, b.here))
              ∙ ap suc (sym (begun-row b))
            where
              upto : (i : ℕ) → (i < b.row) ⊎ ((i ≡ b.row) ⊎ (b.row < i)) → i < suc b.row → firsts rows i < suc t
              upto i (inl l) h = omega (arith, s.rising i b.row l b.there, b.here)
              upto i (inr (inl q)) h = omega (arith, ap (firsts rows) q, b.here)
              upto i (inr (inr l)) h = absurd (omega arith)
      go false e =
          begun-is (suc t) rows s.rising (begun_before rows t) (begun-few t rows)
          (λ i l. omega (arith, (begun-are t rows s.rising i (omega (arith, begun-few t rows))).0 l))
          (λ i l h. after i l h (lt-tri t (firsts rows i)))
        where
          after : (i : ℕ) → begun_before rows t ≤ i → i < length rows → (t < firsts rows i) ⊎ ((t ≡ firsts rows i) ⊎ (firsts rows i < t)) → t < firsts rows i
          after i l h (inl g) = g
          after i l h (inr (inl q)) = absurd (none-begins e i h (sym q))
          after i l h (inr (inr g)) = absurd (omega (arith, (begun-are t rows s.rising i h).1 g))
