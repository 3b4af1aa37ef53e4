-- What one more row does to a section, by three tests of the row: it is active, it began before, it goes on.
use borrow.Author.Tests.{eq-eqb, le-leb, le-ltb, lt-leb, lt-ltb, ltb-false, ne_eqb}
use lib.Dec.{T, eqb, leb, leb→le, ltb}
use lib.ListN.{length}
use mathlib.Core.Bool.{◌&&◌, Bool, cond, false, not, true, ◌||◌}
use mathlib.Core.List.{List, [], ◌∷◌}
use mathlib.Core.Path.{refl, subst, sym, ◌≡◌}
use native.Mathlib.Decide.{dec_lt}
use native.Mathlib.Omega.{arith}
use Prim.Native.Nat.{◌*◌, ◌+◌, ◌<◌, suc, suc-le-suc, zero-le, ℕ, ◌≤◌}
use Rattle.plates.proofs.Live.{and_left, and_right}
use Rattle.trellises.specs.declared.Section.{Section}
use Rattle.trellises.specs.SectionOf.{is_active, quiet, section_of, with_active, with_row}
use Rattle.words.specs.Choice.{more}
use Rattle.words.specs.Ends.{first, firsts, last, lasts}
use Rattle.words.specs.Span.{Apart}
use Rattle.words.specs.Word.{bit}

-- the section with a row, by the three tests and the row's digit
abbrev pub taking : Bool → Bool → Bool → ℕ → Section → Section
taking false began on d c = c
taking true began on d c = record {
  live = more began c.live;
  begins = not began || c.begins;
  ends = not on || c.ends;
  ending = cond (not on) 0 (suc c.ending);
  column = c.column * 2 + d;
}

pub and-false : (a : Bool) → (a && false) ≡ false
and-false true = refl
and-false false = refl

and-true-right : (a : Bool) → (a && true) ≡ a
and-true-right true = refl
and-true-right false = refl

equal-or-less : (x y : ℕ) → x ≤ y → (eqb x y ≡ not (ltb x y)) × (eqb y x ≡ not (ltb x y))
equal-or-less x y h = go (dec_lt x y)
  where
    go : Dec (x < y) → (eqb x y ≡ not (ltb x y)) × (eqb y x ≡ not (ltb x y))
    go (yes l) = rw (lt-ltb x y l) (ne_eqb x y (λ e. omega arith), ne_eqb y x (λ e. omega arith))
    go (no l) = rw (le-ltb x y (omega arith)) (eq-eqb x y (omega arith), eq-eqb y x (omega arith))

-- a row is live at t where it is active and began before, and at the next depth where it is active and goes on
module _ (t row : ℕ) where
  by_place : {A : Type 0} → (t < first row → A) → (last row < t → A) → (first row ≤ t → t ≤ last row → A) → A
  by_place {A} early late in-it = go (dec_lt t (first row)) (dec_lt (last row) t)
    where
      go : Dec (t < first row) → Dec (last row < t) → A
      go (yes h) m = early h
      go (no h) (yes m) = late m
      go (no h) (no m) = in-it (omega arith) (omega arith)

  pub with-row : (c : Section) → with_row t row c ≡ taking (is_active t row) (ltb (first row) t) (ltb t (last row)) (bit row t) c
  unfolding with_row with_active
  with-row c =
      by_place (λ h. rw (lt-leb (first row) t h)) (λ h. rw (lt-leb t (last row) h, and-false (leb (first row) t)))
      (λ h m. rw (le-leb (first row) t h, le-leb t (last row) m, (equal-or-less (first row) t h).0, (equal-or-less t (last row) m).1))

  pub live_now : (ltb (first row) t && leb t (last row)) ≡ (is_active t row && ltb (first row) t)
  live_now =
      by_place (λ h. rw (lt-leb (first row) t h, le-ltb (first row) t (omega arith))) (λ h. rw (lt-leb t (last row) h, and-false (leb (first row) t)) (and-false (ltb (first row) t)))
      (λ h m. rw (le-leb (first row) t h, le-leb t (last row) m) (and-true-right (ltb (first row) t)))

  pub live-next : (ltb (first row) (suc t) && leb (suc t) (last row)) ≡ (is_active t row && ltb t (last row))
  live-next =
      by_place (λ h. rw (lt-leb (first row) t h, le-ltb (first row) (suc t) h))
      (λ h. rw (lt-leb t (last row) h, and-false (leb (first row) t), lt-leb (suc t) (last row) (omega arith)) (and-false (ltb (first row) (suc t))))
      (λ h m. rw (le-leb (first row) t h, le-leb t (last row) m, lt-ltb (first row) (suc t) (omega arith)))

  pub active-ends : is_active t row ≡ true → (first row ≤ t) × (t ≤ last row)
  active-ends e = (
    leb→le (first row) t (and_left (leb (first row) t) (leb t (last row)) (subst T (sym e) tt)),
    leb→le t (last row) (and_right (leb (first row) t) (leb t (last row)) (subst T (sym e) tt)),
  )

-- ---- first ones that rise, and last ones that differ

abbrev pub Rising : List ℕ → Type 0
Rising rows = (i j : ℕ) → i < j → j < length rows → firsts rows i < firsts rows j

abbrev pub LastsApart : List ℕ → Type 0
LastsApart rows = Apart (length rows) (lasts rows)

pub rising-rest : (row : ℕ) (rows : List ℕ) → Rising (row ∷ rows) → Rising rows
rising-rest row rows h i j l m = h (suc i) (suc j) (suc-le-suc l) (suc-le-suc m)

pub apart-rest : (row : ℕ) (rows : List ℕ) → LastsApart (row ∷ rows) → LastsApart rows
apart-rest row rows h i j l m e = omega (arith, h (suc i) (suc j) (suc-le-suc l) (suc-le-suc m) e)

module _ (t : ℕ) where
  -- no row is active where all begin later
  all-later : (rows : List ℕ) → ((j : ℕ) → j < length rows → t < firsts rows j) → section_of rows t ≡ quiet
  unfolding with_row
  all-later [] h = refl
  all-later (row ∷ rows) h = rw (lt-leb (first row) t (h 0 (suc-le-suc zero-le))) (all-later rows (λ j l. h (suc j) (suc-le-suc l)))

  -- a row that does not begin before t leaves no active row behind it
  pub begins-alone : (row : ℕ) (rows : List ℕ) → Rising (row ∷ rows) → ltb (first row) t ≡ false → section_of rows t ≡ quiet
  begins-alone row rows h e =
      all-later rows (λ j l. omega (arith, ltb-false (first row) t e, h 0 (suc j) (suc-le-suc zero-le) (suc-le-suc l)))

  -- no row ends at t where none has its last one there
  none-ends : (rows : List ℕ) → ((j : ℕ) → j < length rows → t ≡ lasts rows j → ⊥) → (section_of rows t).ends ≡ false
  none-ends [] h = refl
  none-ends (row ∷ rows) h =
      rw (with-row t row (section_of rows t)) (go (is_active t row) (ltb t (last row)) refl refl (none-ends rows (λ j l. h (suc j) (suc-le-suc l))))
    where
      go : (a g : Bool) → is_active t row ≡ a → ltb t (last row) ≡ g → (section_of rows t).ends ≡ false → (taking a (ltb (first row) t) g (bit row t) (section_of rows t)).ends ≡ false
      go false g e f ih = ih
      go true true e f ih = ih
      go true false e f ih = absurd (h 0 (suc-le-suc zero-le) (omega (arith, ltb-false t (last row) f, active-ends t row e)))

  -- where a row ends at t, none behind it does
  pub ends-alone : (row : ℕ) (rows : List ℕ) → LastsApart (row ∷ rows) → is_active t row ≡ true → ltb t (last row) ≡ false → (section_of rows t).ends ≡ false
  ends-alone row rows h e f =
      none-ends rows (λ j k q. omega (arith, h 0 (suc j) (suc-le-suc zero-le) (suc-le-suc k) (omega (arith, q, ltb-false t (last row) f, active-ends t row e))))
