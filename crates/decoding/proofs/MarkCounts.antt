-- How many rows are live, and where a section's branches lead, by the rows' marks.
use borrow.Author.Tests.{le-leb, le-ltb, lt-leb, lt-ltb, ltb-false}
use lib.Bits.{and_mask, bit_and}
use lib.Count.{ones, ones-le, ones_step}
use lib.Dec.{ltb}
use lib.ListN.{get_or, length}
use lib.Pow.{pow_pos}
use mathlib.Core.Bool.{◌&&◌, Bool, cond, false, true}
use mathlib.Core.List.{List, [], ◌∷◌}
use mathlib.Core.Path.{ap, ap₂, refl, sym, ◌∙◌, ◌≡◌}
use native.Mathlib.Nat.{mod-lt, pow-suc}
use native.Mathlib.Numerals.{one-add}
use native.Mathlib.Omega.{arith}
use Prim.Native.Nat.{◌%◌, ◌*◌, ◌+◌, ◌-◌, ◌/◌, ◌<◌, ◌^◌, suc, suc-le-suc, zero, zero-le, ℕ, ◌≤◌}
use Rattle.decoding.proofs.LiveMarks.{in_order, marks-bit, none-live-first, with-ending}
use Rattle.decoding.proofs.PassedRows.{mark-is}
use Rattle.decoding.specs.LiveRows.{EndsAre, active_marks, ending_by, is_live, leads_by, live_marks, ending_count, mark_of, marks}
use Rattle.trellises.proofs.Digits.{mod-digit}
use Rattle.trellises.proofs.OneMoreRow.{LastsApart, active-ends, and-false, apart-rest, taking, with-row}
use Rattle.trellises.proofs.SectionAgrees.{active-count, live-count}
use Rattle.trellises.specs.declared.Section.{Section}
use Rattle.trellises.specs.Numbers.{leads_to, without}
use Rattle.trellises.specs.SectionOf.{is_active, section_of}
use Rattle.words.proofs.Word.{half}
use Rattle.words.specs.Choice.{count, more}
use Rattle.words.specs.Ends.{first, firsts, last, lasts}
use Rattle.words.specs.Span.{Spans}
use Rattle.words.specs.Word.{bit}

ones-zero : ones 0 ≡ 0
unfolding ones
ones-zero = refl

mod-one : (x : ℕ) → x % 1 ≡ 0
mod-one x = omega arith

ones-digit : (m d : ℕ) → d < 2 → ones (m * 2 + d) ≡ d + ones m
ones-digit m d h =
    let e : (m * 2 + d) % 2 ≡ d = omega arith in
    ones_step (m * 2 + d) ∙ ap₂ (λ (x y : ℕ). x + ones y) e (half m d h)

-- one mark more, where the test passes
marked : (m : ℕ) (b : Bool) → ones (m * 2 + cond b 1 0) ≡ more b (ones m)
marked m true = ones-digit m 1 (omega arith) ∙ one-add (ones m)
marked m false = omega (arith, ones-digit m 0 (omega arith))

-- as many marks as rows that pass
ones-marks : (P : ℕ → Bool) (rows : List ℕ) → ones (marks P rows) ≡ count (length rows) (λ j. P (get_or rows j 0))
ones-marks P [] = ones-zero
ones-marks P (row ∷ rows) = marked (marks P rows) (P row) ∙ ap (more (P row)) (ones-marks P rows)

pub live_ones : (rows : List ℕ) (t : ℕ) → ones (live_marks rows t) ≡ (section_of rows t).live
live_ones rows t = ones-marks (is_live t) rows ∙ sym (live-count t rows)

pub none-counted-first : (rows : List ℕ) → (section_of rows 0).live ≡ 0
none-counted-first rows = sym (live_ones rows 0) ∙ ap ones (none-live-first rows) ∙ ones-zero

-- one mark more, where there was none
ones-more : (j x : ℕ) → bit x j ≡ 0 → ones (x + 2 ^ j) ≡ suc (ones x)
ones-more zero x e =
    let a : (x + 1) % 2 ≡ 1 = omega arith in
    let b : (x + 1) / 2 ≡ x / 2 = omega arith in
    ones_step (x + 1) ∙ ap₂ (λ (d h : ℕ). d + ones h) a b ∙ omega (arith, ones_step x)
ones-more (suc j) x e =
    let a : (x + 2 ^ suc j) % 2 ≡ x % 2 = omega (arith, pow-suc 2 j) in
    let b : (x + 2 ^ suc j) / 2 ≡ x / 2 + 2 ^ j = omega (arith, pow-suc 2 j) in
    ones_step (x + 2 ^ suc j) ∙ ap₂ (λ (d h : ℕ). d + ones h) a b ∙ omega (arith, ones-more j (x / 2) e, ones_step x)

module _ (t : ℕ) where
  -- no row ends: each active row is counted
  pub none-ending : (rows : List ℕ) → ((j : ℕ) → j < length rows → lasts rows j ≡ t → ⊥)
      → ((section_of rows t).ends ≡ false) × ((section_of rows t).ending ≡ ones (active_marks rows t))
  none-ending [] h = (refl, sym ones-zero)
  none-ending (row ∷ rows) h =
      rw (with-row t row (section_of rows t)) (go (is_active t row) (ltb t (last row)) refl refl (none-ending rows (λ j l. h (suc j) (suc-le-suc l))))
    where
      c : Section
      c = section_of rows t

      m : ℕ
      m = active_marks rows t

      go : (a g : Bool) → is_active t row ≡ a → ltb t (last row) ≡ g → (c.ends ≡ false) × (c.ending ≡ ones m)
          → ((taking a (ltb (first row) t) g (bit row t) c).ends ≡ false) × ((taking a (ltb (first row) t) g (bit row t) c).ending ≡ ones (m * 2 + cond a 1 0))
      go false g p q ih = (ih.0, ih.1 ∙ sym (marked m false))
      go true true p q ih = (ih.0, ap suc ih.1 ∙ sym (marked m true))
      go true false p q ih = absurd (h 0 (suc-le-suc zero-le) (omega (arith, ltb-false t (last row) q, active-ends t row p)))

  -- row j ends: the active rows below it are counted
  pub one-ending : (rows : List ℕ) → LastsApart rows → (j : ℕ) → j < length rows → firsts rows j ≤ t → lasts rows j ≡ t
      → ((section_of rows t).ends ≡ true) × ((section_of rows t).ending ≡ ones (active_marks rows t % 2 ^ j))
  one-ending [] h j l f e = absurd (omega arith)
  one-ending (row ∷ rows) h zero l f e =
      rw (with-row t row (section_of rows t), le-leb (first row) t f, le-leb t (last row) (omega arith), le-ltb t (last row) (omega arith))
      (refl, sym (ap ones (mod-one (active_marks rows t * 2 + 1)) ∙ ones-zero))
  one-ending (row ∷ rows) h (suc j) l f e =
      rw (with-row t row (section_of rows t)) (go (is_active t row) (ltb t (last row)) refl refl (one-ending rows (apart-rest row rows h) j (omega arith) f e))
    where
      c : Section
      c = section_of rows t

      m : ℕ
      m = active_marks rows t

      low : (b : Bool) → ones ((m * 2 + cond b 1 0) % 2 ^ suc j) ≡ more b (ones (m % 2 ^ j))
      low b = ap ones (mod-digit (m * 2 + cond b 1 0) j ∙ ap₂ (λ (x y : ℕ). x % 2 ^ j * 2 + y) (half m (cond b 1 0) (small b)) (odd b)) ∙ marked (m % 2 ^ j) b
        where
          small : (b : Bool) → cond b 1 0 < 2
          small true = omega arith
          small false = omega arith

          odd : (b : Bool) → (m * 2 + cond b 1 0) % 2 ≡ cond b 1 0
          odd b = let k = small b in omega arith

      go : (a g : Bool) → is_active t row ≡ a → ltb t (last row) ≡ g → (c.ends ≡ true) × (c.ending ≡ ones (m % 2 ^ j))
          → ((taking a (ltb (first row) t) g (bit row t) c).ends ≡ true)
          × ((taking a (ltb (first row) t) g (bit row t) c).ending ≡ ones ((m * 2 + cond a 1 0) % 2 ^ suc j))
      go false g p q ih = (ih.0, ih.1 ∙ sym (low false))
      go true true p q ih = (ih.0, ap suc ih.1 ∙ sym (low true))
      go true false p q ih =
          absurd (omega (arith, h 0 (suc j) (suc-le-suc zero-le) l (omega (arith, e, ltb-false t (last row) q, active-ends t row p))))

module _ (rows : List ℕ) (s : Spans rows (firsts rows) (lasts rows)) (ends : List ℕ) (t : ℕ) (a : EndsAre rows ends) (h : t < 64) where
  -- whether a row ends, and the digit that is lost
  pub ending-by : (ltb 0 (get_or ends t 0) ≡ (section_of rows t).ends) × (ending_by (active_marks rows t) (get_or ends t 0) ≡ (section_of rows t).ending)
  ending-by = go (get_or ends t 0) refl
    where
      go : (n : ℕ) → get_or ends t 0 ≡ n → (ltb 0 n ≡ (section_of rows t).ends) × (ending_by (active_marks rows t) n ≡ (section_of rows t).ending)
      go zero q = let e = none-ending t rows (a.none t h q) in (sym e.0, sym e.1)
      go (suc j) q =
          let m = a.some t j h q in
          let e = one-ending t rows s.apart j m.0 (omega (arith, in_order rows s j m.0)) m.1 in
          (lt-ltb 0 (suc j) (suc-le-suc zero-le) ∙ sym e.0, sym e.1)

  -- behind the section one row less is live than is active in it, where a row ends
  pub live-behind : (section_of rows (suc t)).live + ending_count (get_or ends t 0) ≡ more (section_of rows t).begins (section_of rows t).live
  live-behind = go (get_or ends t 0) refl ∙ ones-marks (is_active t) rows ∙ sym (active-count t rows s.rising)
    where
      go : (n : ℕ) → get_or ends t 0 ≡ n → (section_of rows (suc t)).live + ending_count n ≡ ones (active_marks rows t)
      go zero q =
          let e : live_marks rows (suc t) ≡ active_marks rows t = omega (arith, with-ending rows s ends t a h, ap mark_of q) in
          omega (arith, live_ones rows (suc t), ap ones e)
      go (suc j) q =
          let m = a.some t j h q in
          let e : live_marks rows (suc t) + 2 ^ j ≡ active_marks rows t =
          ap (λ (n : ℕ). live_marks rows (suc t) + mark_of n) (sym q) ∙ with-ending rows s ends t a h in
          omega (arith, live_ones rows (suc t), ones-more j (live_marks rows (suc t)) (ended-mark j m), ap ones e)
        where
          ended-mark : (j : ℕ) → (j < length rows) × (lasts rows j ≡ t) → bit (live_marks rows (suc t)) j ≡ 0
          ended-mark j m =
              marks-bit (is_live (suc t)) rows j m.0
              ∙ ap (λ (b : Bool). cond b 1 0) (ap (λ (b : Bool). ltb (firsts rows j) (suc t) && b) (lt-leb (suc t) (lasts rows j) (omega (arith, m.1))) ∙ and-false (ltb (firsts rows j) (suc t)))

  pub leads-by : (x : ℕ) → leads_by (active_marks rows t) (get_or ends t 0) x ≡ leads_to (section_of rows t) x
  leads-by x = go (get_or ends t 0) ending-by
    where
      go : (n : ℕ) → (ltb 0 n ≡ (section_of rows t).ends) × (ending_by (active_marks rows t) n ≡ (section_of rows t).ending)
          → leads_by (active_marks rows t) n x ≡ leads_to (section_of rows t) x
      go zero e = ap (λ (b : Bool). cond b (without (section_of rows t).ending x) x) (sym (le-ltb 0 0 zero-le) ∙ e.0)
      go (suc j) e = ap₂ (λ (b : Bool) (n : ℕ). cond b (without n x) x) (sym (lt-ltb 0 (suc j) (suc-le-suc zero-le)) ∙ e.0) e.1

-- ---- the same as the code has it

pub none-ends : (n : ℕ) → n ≡ 0 → ending_count n ≡ 0
none-ends n e = ap ending_count e

pub one-ends : (n : ℕ) → (n ≡ 0 → ⊥) → ending_count n ≡ 1
one-ends zero z = absurd (z refl)
one-ends (suc j) z = refl

module _ (active n : ℕ) (z : n ≡ 0 → ⊥) where
  -- the active rows below the row that ends are few
  pub below-few : n ≤ 64 → ending_by active n < 64
  below-few h = go n z h
    where
      go : (n : ℕ) → (n ≡ 0 → ⊥) → n ≤ 64 → ending_by active n < 64
      go zero z h = absurd (z refl)
      go (suc j) z h = omega (arith, ones-le j (active % 2 ^ j) (mod-lt active (pow_pos j)))

  pub below-is : n ≤ 64 → ones (bit_and active (1 * 2 ^ (n - 1) % 2 ^ 64 - 1)) ≡ ending_by active n
  below-is h = go n z h
    where
      go : (n : ℕ) → (n ≡ 0 → ⊥) → n ≤ 64 → ones (bit_and active (1 * 2 ^ (n - 1) % 2 ^ 64 - 1)) ≡ ending_by active n
      go zero z h = absurd (z refl)
      go (suc j) z h = ap (λ (y : ℕ). ones (bit_and active (y - 1))) (mark-is (suc j) z h) ∙ ap ones (and_mask active j)

  pub leads-is : (x : ℕ) → without (ending_by active n) x ≡ leads_by active n x
  leads-is x = go n z
    where
      go : (n : ℕ) → (n ≡ 0 → ⊥) → without (ending_by active n) x ≡ leads_by active n x
      go zero z = absurd (z refl)
      go (suc j) z = refl
