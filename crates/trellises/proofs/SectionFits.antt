-- The numbers of a section are small: at most 4,096 states where the profile is narrow, and a column of at most 13 rows.
use borrow.Author.Tests.{ltb-false}
use lib.Dec.{ltb}
use lib.Pow.{pow_mono}
use mathlib.Core.Bool.{Bool, false, false≢true, true}
use mathlib.Core.List.{List, [], ◌∷◌}
use mathlib.Core.Path.{ap, refl, subst, ◌∙◌, ◌≡◌}
use native.Mathlib.Nat.{le_refl, lt_of_lt_of_le, pow-suc}
use native.Mathlib.Omega.{arith}
use Prim.Native.Nat.{◌*◌, ◌+◌, ◌<◌, ◌^◌, suc, suc-le-suc, zero, zero-le, ℕ, ◌≤◌}
use Rattle.plates.specs.declared.Plate.{Plate}
use Rattle.plates.specs.Prepare.{rows_of}
use Rattle.plates.specs.Sound.{Sound}
use Rattle.trellises.proofs.OneMoreRow.{Rising, active-ends, begins-alone, rising-rest, taking, with-row}
use Rattle.trellises.proofs.SectionAgrees.{active-count, live-count}
use Rattle.trellises.specs.declared.Section.{Section}
use Rattle.trellises.specs.SectionOf.{is_active, section_of}
use Rattle.trellises.specs.Smallest.{active_at}
use Rattle.words.proofs.Word.{bit-lt, half}
use Rattle.words.specs.Choice.{count, more}
use Rattle.words.specs.Ends.{first, firsts, last, lasts}
use Rattle.words.specs.Span.{Before, Leads, Spans}
use Rattle.words.specs.Word.{bit}

-- no more pass than there are
pub count-at-most : (k : ℕ) (P : ℕ → Bool) → count k P ≤ k
count-at-most zero P = zero-le
count-at-most (suc k) P = go (P 0) (count-at-most k (λ j. P (suc j)))
  where
    go : (b : Bool) {n : ℕ} → n ≤ k → more b n ≤ suc k
    go true h = suc-le-suc h
    go false h = omega arith

module _ (t : ℕ) where
  pub column-below : (rows : List ℕ) → (section_of rows t).column < 2 ^ active_at rows t
  column-below [] = omega arith
  column-below (row ∷ rows) = rw (with-row t row (section_of rows t)) (go (is_active t row) (active_at rows t) (column-below rows))
    where
      go : (a : Bool) (n : ℕ) → (section_of rows t).column < 2 ^ n → (taking a (ltb (first row) t) (ltb t (last row)) (bit row t) (section_of rows t)).column < 2 ^ more a n
      go true n h = omega (arith, pow-suc 2 n, bit-lt t row)
      go false n h = h

  pub ending-at-most : (rows : List ℕ) → (section_of rows t).ending ≤ active_at rows t
  ending-at-most [] = zero-le
  ending-at-most (row ∷ rows) = rw (with-row t row (section_of rows t)) (go (is_active t row) (ltb t (last row)) (ending-at-most rows))
    where
      go : (a g : Bool) {n : ℕ} → (section_of rows t).ending ≤ n → (taking a (ltb (first row) t) g (bit row t) (section_of rows t)).ending ≤ more a n
      go true true h = suc-le-suc h
      go true false h = zero-le
      go false g h = h

  -- the row that ends is an active row
  ending-below : (rows : List ℕ) → (section_of rows t).ends ≡ true → (section_of rows t).ending < active_at rows t
  ending-below [] = λ e. absurd (false≢true e)
  ending-below (row ∷ rows) = rw (with-row t row (section_of rows t)) (go (is_active t row) (ltb t (last row)) (ending-below rows))
    where
      c : Section
      c = section_of rows t

      go : (a g : Bool) {n : ℕ} → (c.ends ≡ true → c.ending < n) → (taking a (ltb (first row) t) g (bit row t) c).ends ≡ true
          → (taking a (ltb (first row) t) g (bit row t) c).ending < more a n
      go true true h e = suc-le-suc (h e)
      go true false h e = suc-le-suc zero-le
      go false g h e = h e

  -- the row that begins has a one here, and weight 2 ^ live
  begins-one : (rows : List ℕ) → Leads Before rows (firsts rows) → Rising rows → (section_of rows t).begins ≡ true
      → bit (section_of rows t).column (section_of rows t).live ≡ 1
  begins-one [] f h = λ e. absurd (false≢true e)
  begins-one (row ∷ rows) f h =
      rw (with-row t row (section_of rows t))
      (go (is_active t row) (ltb (first row) t) refl refl (begins-one rows (λ j l. f (suc j) (suc-le-suc l)) (rising-rest row rows h)))
    where
      c : Section
      c = section_of rows t

      here : is_active t row ≡ true → ltb (first row) t ≡ false → bit row t ≡ 1
      here e g =
          let p : first row ≡ t = omega (arith, ltb-false (first row) t g, active-ends t row e) in
          subst (λ (i : ℕ). bit row i ≡ 1) p (f 0 (suc-le-suc zero-le)).one

      go : (a b : Bool) → is_active t row ≡ a → ltb (first row) t ≡ b → (c.begins ≡ true → bit c.column c.live ≡ 1)
          → (taking a b (ltb t (last row)) (bit row t) c).begins ≡ true
          → bit (taking a b (ltb t (last row)) (bit row t) c).column (taking a b (ltb t (last row)) (bit row t) c).live ≡ 1
      go false b p q ih e = ih e
      go true true p q ih e = ap (λ (x : ℕ). bit x c.live) (half c.column (bit row t) (bit-lt t row)) ∙ ih e
      go true false p q ih e =
          ap (bit (c.column * 2 + bit row t)) (ap (λ (z : Section). z.live) (begins-alone t row rows h q)) ∙ omega (arith, here p q)

more-at-most : (b : Bool) (n : ℕ) → more b n ≤ suc n
more-at-most true n = le_refl (suc n)
more-at-most false n = omega arith

-- ---- a section of a sound plate

module _ {plate : Plate} (s : Sound plate) (t : ℕ) (h : t ≤ plate.n) where
  abbrev c : Section
  c = section_of (rows_of plate) t

  spans : Spans (rows_of plate) (firsts (rows_of plate)) (lasts (rows_of plate))
  spans = s.reduced.spans

  pub narrow : (section_of (rows_of plate) t).live ≤ 12
  narrow = omega (arith, live-count t (rows_of plate), s.narrow t h)

  pub few-active : active_at (rows_of plate) t ≤ suc (section_of (rows_of plate) t).live
  few-active = omega (arith, active-count t (rows_of plate) spans.rising, more-at-most c.begins c.live)

  pub ending-live : (section_of (rows_of plate) t).ends ≡ true → (section_of (rows_of plate) t).ending ≤ (section_of (rows_of plate) t).live
  ending-live e = omega (arith, ending-below t (rows_of plate) e, few-active)

  pub column-small : (section_of (rows_of plate) t).column < 2 ^ 13
  column-small =
      let a : active_at (rows_of plate) t ≤ 13 = omega (arith, few-active, narrow) in
      lt_of_lt_of_le (column-below t (rows_of plate)) (pow_mono a)

  pub begun : (section_of (rows_of plate) t).begins ≡ true → bit (section_of (rows_of plate) t).column (section_of (rows_of plate) t).live ≡ 1
  begun = begins-one t (rows_of plate) spans.first spans.rising
