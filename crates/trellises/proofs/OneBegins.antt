-- At most one row begins in a section; it is the last of the active rows, so its weight is 2 ^ live.
use borrow.Author.Tests.{le-leb, le-ltb, lt-ltb, ltb-false}
use lib.Dec.{ltb}
use lib.ListN.{length}
use mathlib.Core.Bool.{Bool, false, false≢true, true}
use mathlib.Core.List.{List, [], ◌∷◌}
use mathlib.Core.Logic.{◌↔◌}
use mathlib.Core.Path.{ap, refl, sym, ◌∙◌, ◌≡◌}
use native.Mathlib.Decide.{dec_lt}
use native.Mathlib.Omega.{arith}
use Prim.Native.Nat.{◌/◌, ◌<◌, suc, suc-le-suc, zero, zero-le, ℕ, ◌≤◌}
use Rattle.trellises.proofs.Digits.{put-half, put-odd, rest}
use Rattle.trellises.proofs.OneMoreRow.{Rising, active-ends, begins-alone, rising-rest, taking, with-row}
use Rattle.trellises.proofs.SectionAgrees.{chosen}
use Rattle.trellises.specs.SectionOf.{is_active, section_of}
use Rattle.trellises.specs.Smallest.{Begins}
use Rattle.words.proofs.Span.{rising-apart, zero_one}
use Rattle.words.specs.Ends.{first, firsts, last, lasts}
use Rattle.words.specs.Span.{First, Last, Spans}
use Rattle.words.specs.Word.{bit}

-- a row with a first and a last one begins at or before it ends
pub ordered : {w p q : ℕ} → First w p → Last w q → p ≤ q
ordered {w} {p} {q} f l = go (dec_lt q p)
  where
    go : Dec (q < p) → p ≤ q
    go (yes h) = absurd (zero_one (l.zeros p h) f.one)
    go (no h) = omega arith

module _ (t : ℕ) where
  begins-is : (rows : List ℕ) → (section_of rows t).begins ≡ true → Begins rows t
  begins-is [] = λ e. absurd (false≢true e)
  begins-is (row ∷ rows) = rw (with-row t row (section_of rows t)) (go (is_active t row) (ltb (first row) t) refl refl (begins-is rows))
    where
      later : Begins rows t → Begins (row ∷ rows) t
      later b = record { row = suc b.row; there = suc-le-suc b.there; here = b.here }

      go : (a b : Bool) → is_active t row ≡ a → ltb (first row) t ≡ b → ((section_of rows t).begins ≡ true → Begins rows t)
          → (taking a b (ltb t (last row)) (bit row t) (section_of rows t)).begins ≡ true → Begins (row ∷ rows) t
      go false b p q ih e = later (ih e)
      go true true p q ih e = later (ih e)
      go true false p q ih e =
          record { row = 0; there = suc-le-suc zero-le; here = omega (arith, active-ends t row p, ltb-false (first row) t q) }

  is-begins : (rows : List ℕ) (j : ℕ) → j < length rows → firsts rows j ≡ t → firsts rows j ≤ lasts rows j → (section_of rows t).begins ≡ true
  is-begins [] j h e o = absurd (omega arith)
  is-begins (row ∷ rows) zero h e o =
      rw (with-row t row (section_of rows t), le-leb (first row) t (omega arith), le-leb t (last row) (omega arith), le-ltb (first row) t (omega arith))
  is-begins (row ∷ rows) (suc j) h e o =
      rw (with-row t row (section_of rows t)) (go (is_active t row) (ltb (first row) t) (is-begins rows j (omega arith) e o))
    where
      go : (a b : Bool) → (section_of rows t).begins ≡ true → (taking a b (ltb t (last row)) (bit row t) (section_of rows t)).begins ≡ true
      go false b p = p
      go true true p = p
      go true false p = refl

  weight : (rows : List ℕ) → Rising rows → (j : ℕ) → j < length rows → firsts rows j ≡ t → firsts rows j ≤ lasts rows j → (v : ℕ)
      → bit (chosen rows t v) j ≡ bit v (section_of rows t).live
  weight [] h j l e o v = absurd (omega arith)
  weight (row ∷ rows) h zero l e o v =
      rw (with-row t row (section_of rows t), le-leb (first row) t (omega arith), le-leb t (last row) (omega arith), le-ltb (first row) t (omega arith), begins-alone t row rows h (le-ltb (first row) t (omega arith)))
      (put-odd true (chosen rows t) v)
  weight (row ∷ rows) h (suc j) l e o v =
      rw (with-row t row (section_of rows t), lt-ltb (first row) t (omega (arith, h 0 (suc j) (suc-le-suc zero-le) l)))
      (ap (λ (x : ℕ). bit x j) (put-half (is_active t row) (chosen rows t) v) ∙ go (is_active t row) (weight rows (rising-rest row rows h) j (omega arith) e o))
    where
      go : (a : Bool) → ((v : ℕ) → bit (chosen rows t v) j ≡ bit v (section_of rows t).live)
          → bit (chosen rows t (rest a v)) j ≡ bit v (taking a true (ltb t (last row)) (bit row t) (section_of rows t)).live
      go true ih = ih (v / 2)
      go false ih = ih v

module _ (rows : List ℕ) (s : Spans rows (firsts rows) (lasts rows)) (t : ℕ) where
  -- the section says whether a row begins
  pub section-begins : ((section_of rows t).begins ≡ true) ↔ Begins rows t
  section-begins = (begins-is t rows, λ b. is-begins t rows b.row b.there b.here (ordered (s.first b.row b.there) (s.last b.row b.there)))

  pub one-begins : (a b : Begins rows t) → a.row ≡ b.row
  one-begins a b = rising-apart (length rows) (firsts rows) s.rising a.row b.row a.there b.there (a.here ∙ sym b.here)

  pub begins-last : (b : Begins rows t) (i : ℕ) → i < length rows → firsts rows i ≤ t → i ≤ b.row
  begins-last b i h a = go (dec_lt b.row i)
    where
      go : Dec (b.row < i) → i ≤ b.row
      go (yes l) = absurd (omega (arith, s.rising b.row i l h, b.here))
      go (no l) = omega arith

  pub begins-weight : (b : Begins rows t) (v : ℕ) → bit (chosen rows t v) b.row ≡ bit v (section_of rows t).live
  begins-weight b =
      weight t rows s.rising b.row b.there b.here (ordered (s.first b.row b.there) (s.last b.row b.there))
