-- The section of the rows that a number names, taken in from the highest bit to the lowest, and that of all rows from the active ones.
use borrow.Author.Tests.{eq-eqb, ne_eqb}
use lib.Arith.{lt-one}
use lib.Dec.{eqb}
use lib.ListN.{drop, get_or, length, take}
use lib.Pow.{field, high, low, mod-mod-pow, pow_mono, pow_pos, shl_exact, shr-shr}
use lib.Seq.{drop-cons, drop-drop, drop-length}
use mathlib.Core.Bool.{Bool, cond, false, true}
use mathlib.Core.List.{List, [], ◌∷◌}
use mathlib.Core.Path.{ap, ap₂, refl, sym, ◌∙◌, ◌≡◌}
use native.Mathlib.Decide.{dec_lt}
use native.Mathlib.Nat.{le_of_lt, le_refl, mod-le, mod-lt, pow-suc}
use native.Mathlib.Numerals.{add-one, one-add}
use native.Mathlib.Omega.{arith}
use Prim.Native.Nat.{◌%◌, ◌*◌, ◌+◌, ◌-◌, ◌/◌, ◌<◌, ◌^◌, suc, suc-le-suc, zero, zero-le, ℕ, ◌≤◌}
use Rattle.trellises.proofs.ActiveOnly.{active-only}
use Rattle.trellises.proofs.Digits.{mod-digit}
use Rattle.trellises.proofs.HeldSection.{held-row, held_whole}
use Rattle.trellises.specs.declared.Section.{Section}
use Rattle.trellises.specs.RowsAmong.{rows_among}
use Rattle.trellises.specs.SectionOf.{active_rows, held, is_active, keep, quiet, section_of, with_row}
use Rattle.words.proofs.Span.{zero_one}
use Rattle.words.proofs.Word.{below-bits, bits_below}
use Rattle.words.specs.Span.{Last}
use Rattle.words.specs.Word.{bit}

-- a one shifted to position j
pub shifted_one : (j : ℕ) → j < 64 → 1 * 2 ^ j % 2 ^ 64 ≡ 2 ^ j
shifted_one j h = shl_exact 1 j 64 (omega arith) (omega arith) ∙ omega arith

-- ---- the rows that a number names

-- low bits that are all 0 name no row
among-skip : (m : ℕ) (rows : List ℕ) (which : ℕ) → which % 2 ^ m ≡ 0 → rows_among rows which ≡ rows_among (drop m rows) (which / 2 ^ m)
among-skip zero rows which e = ap (rows_among rows) (omega arith)
among-skip (suc m) [] which e = refl
among-skip (suc m) (row ∷ rows) which e =
    let d : which % 2 ≡ 0 = omega (arith, mod-digit which m) in
    let r : which / 2 % 2 ^ m ≡ 0 = omega (arith, mod-digit which m) in
    let q : which / 2 / 2 ^ m ≡ which / 2 ^ suc m = shr-shr which 1 m ∙ ap (λ (i : ℕ). which / 2 ^ i) (one-add m) in
    rw d (among-skip m rows (which / 2) r ∙ ap (rows_among (drop m rows)) q)

-- the rows from j on, where the next bits are those of 1
among_one : (rows : List ℕ) (which j d : ℕ) → j < length rows → which / 2 ^ j % 2 ^ suc d ≡ 1
    → rows_among (drop j rows) (which / 2 ^ j) ≡ get_or rows j 0 ∷ rows_among (drop (suc j + d) rows) (which / 2 ^ (suc j + d))
among_one rows which j d h e =
    let o : which / 2 ^ j % 2 ≡ 1 = omega (arith, mod-digit (which / 2 ^ j) d) in
    let z : which / 2 ^ j / 2 % 2 ^ d ≡ 0 = omega (arith, mod-digit (which / 2 ^ j) d) in
    let q : which / 2 ^ j / 2 / 2 ^ d ≡ which / 2 ^ (suc j + d) =
    ap (λ (x : ℕ). x / 2 ^ d) (shr-shr which j 1) ∙ shr-shr which (j + 1) d ∙ ap (λ (i : ℕ). which / 2 ^ (i + d)) (add-one j) in
    rw (drop-cons rows j 0 h, o)
    (ap (λ (l : List ℕ). get_or rows j 0 ∷ l)
    (among-skip d (drop (suc j) rows) (which / 2 ^ j / 2) z ∙ ap₂ rows_among (drop-drop d (suc j) rows) q))

among_none : (rows : List ℕ) → rows_among rows 0 ≡ []
among_none [] = refl
among_none (row ∷ rows) = among_none rows

-- a number below 2 ^ k names none but the first k rows
pub among_first : (k : ℕ) (rows : List ℕ) (which : ℕ) → which < 2 ^ k → rows_among rows which ≡ rows_among (take k rows) which
among_first zero rows which h = ap (rows_among rows) (lt-one h) ∙ among_none rows
among_first (suc k) [] which h = refl
among_first (suc k) (row ∷ rows) which h =
    ap (keep (eqb (which % 2) 1) row) (among_first k rows (which / 2) (omega (arith, pow-suc 2 k)))

-- ---- one row after the other

-- the rows from row `from` on are taken in, as far as they are named, and the rows before it are left
pub record TakenFrom (rows : List ℕ) (which depth left : ℕ) (section : Section) : Type 0 where
  pub from : ℕ
  pub within : from ≤ length rows
  pub unseen : left ≡ which % 2 ^ from
  pub taken : section ≡ held (section_of (rows_among (drop from rows) (which / 2 ^ from)) depth)

module _ (rows : List ℕ) (which depth : ℕ) where
  pub none-taken : {left : ℕ} → left ≡ which % 2 ^ length rows → TakenFrom rows which depth left quiet
  none-taken e = record {
    from = length rows;
    within = le_refl (length rows);
    unseen = e;
    taken = rw (drop-length rows);
  }

  pub all-taken : {left : ℕ} {section : Section} → TakenFrom rows which depth left section → left ≡ 0 → section ≡ held (section_of (rows_among rows which) depth)
  all-taken t e = t.taken ∙ sym (ap (λ (l : List ℕ). held (section_of l depth)) (among-skip t.from rows which (sym t.unseen ∙ e)))

  module _ {left j : ℕ} {section : Section} (t : TakenFrom rows which depth left section) (l : Last left j) where
    pub at_least : 2 ^ j ≤ left
    at_least = go (dec_lt left (2 ^ j))
      where
        go : Dec (left < 2 ^ j) → 2 ^ j ≤ left
        go (yes h) = absurd (zero_one (bits_below j left h j (le_refl j)) l.one)
        go (no h) = omega arith

    at_most : left < 2 ^ suc j
    at_most = below-bits (suc j) left l.zeros

    before : j < t.from
    before = go (dec_lt j t.from)
      where
        go : Dec (j < t.from) → j < t.from
        go (yes h) = h
        go (no h) =
            let g : t.from ≤ j = omega arith in
            absurd (omega (arith, pow_mono g, at_least, t.unseen, mod-lt which (pow_pos t.from)))

    pub row_within : j < length rows
    row_within = omega (arith, before, t.within)

    pub position : which < 2 ^ 64 → j < 64
    position h = go (dec_lt j 64)
      where
        go : Dec (j < 64) → j < 64
        go (yes g) = g
        go (no g) =
            let m : 64 ≤ j = omega arith in
            absurd (omega (arith, pow_mono m, at_least, t.unseen, mod-le which (2 ^ t.from)))

    pub one-taken : {next : Section} → next ≡ held (with_row depth (get_or rows j 0) section) → TakenFrom rows which depth (left - 2 ^ j) next
    one-taken e = record {
      from = j;
      within = le_of_lt row_within;
      unseen = rest;
      taken = e
          ∙ ap (λ (c : Section). held (with_row depth (get_or rows j 0) c)) t.taken
          ∙ held-row depth (get_or rows j 0) (section_of (rows_among (drop t.from rows) (which / 2 ^ t.from)) depth)
          ∙ sym (ap (λ (r : List ℕ). held (section_of r depth)) rows_are);
    }
      where
        d : ℕ
        d = t.from - suc j

        places : suc d + j ≡ t.from
        places = omega (arith, before)

        split-left : 1 * 2 ^ j + (left - 2 ^ j) ≡ left
        split-left = omega (arith, at_least)

        small : left - 2 ^ j < 2 ^ j
        small = omega (arith, at_most, pow-suc 2 j, at_least)

        left_is : left ≡ which % 2 ^ (suc d + j)
        left_is = t.unseen ∙ ap (λ (i : ℕ). which % 2 ^ i) (sym places)

        rest : left - 2 ^ j ≡ which % 2 ^ j
        rest = sym (low 1 j small) ∙ ap (λ (x : ℕ). x % 2 ^ j) (split-left ∙ left_is) ∙ mod-mod-pow which (suc d) j

        next-bits : which / 2 ^ j % 2 ^ suc d ≡ 1
        next-bits = sym (field which (suc d) j) ∙ ap (λ (x : ℕ). x / 2 ^ j) (sym (split-left ∙ left_is)) ∙ high 1 j small

        rows_are : rows_among (drop j rows) (which / 2 ^ j) ≡ get_or rows j 0 ∷ rows_among (drop t.from rows) (which / 2 ^ t.from)
        rows_are =
            let p : suc j + d ≡ t.from = omega (arith, before) in
            among_one rows which j d row_within next-bits ∙ ap (λ (i : ℕ). get_or rows j 0 ∷ rows_among (drop i rows) (which / 2 ^ i)) p

-- ---- where the number names the active rows

among-active : (rows : List ℕ) (which t : ℕ) → ((j : ℕ) → j < length rows → bit which j ≡ cond (is_active t (get_or rows j 0)) 1 0)
    → rows_among rows which ≡ active_rows rows t
among-active [] which t h = refl
among-active (row ∷ rows) which t h =
    ap₂ (λ (b : Bool) (l : List ℕ). keep b row l) (go (is_active t row) (h 0 (suc-le-suc zero-le))) (among-active rows (which / 2) t (λ j l. h (suc j) (suc-le-suc l)))
  where
    go : (a : Bool) → which % 2 ≡ cond a 1 0 → eqb (which % 2) 1 ≡ a
    go true e = eq-eqb (which % 2) 1 e
    go false e = ne_eqb (which % 2) 1 (λ o. omega arith)

-- bit j says whether row j is active: the section of the rows named is that of all rows
pub section-of-active : (rows : List ℕ) (which t : ℕ) → length rows ≤ 64
    → ((j : ℕ) → j < length rows → bit which j ≡ cond (is_active t (get_or rows j 0)) 1 0)
    → held (section_of (rows_among rows which) t) ≡ section_of rows t
section-of-active rows which t few h =
    ap (λ (l : List ℕ). held (section_of l t)) (among-active rows which t h) ∙ ap held (active-only rows t) ∙ held_whole rows t few
