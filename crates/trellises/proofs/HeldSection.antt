-- A section as the code finds it, row by row: from the counts of zeros at either end of a row, with a 64-bit column.
use borrow.Author.Tests.{le-leb, lt-leb}
use lib.Bits.{bit_or, or_shifted}
use lib.Count.{trailing_of_zero}
use lib.Dec.{eqb, leb, ltb}
use lib.ListN.{drop, get_or, length}
use lib.Pow.{pow_mono, pow_pos}
use lib.Seq.{drop-cons}
use mathlib.Core.Bool.{Bool, cond, false, true, ◌||◌}
use mathlib.Core.List.{List, [], ◌∷◌}
use mathlib.Core.Path.{ap, refl, sym, ◌∙◌, ◌≡◌}
use mir.Val.{bool_byte}
use native.Mathlib.Nat.{lt_of_lt_of_le, mod-eq_of_lt, mod-lt, mod-mod}
use native.Mathlib.Numerals.{add-one}
use native.Mathlib.Omega.{arith}
use Prim.Native.Nat.{◌%◌, ◌*◌, ◌+◌, ◌<◌, ◌^◌, suc, suc-le-suc, zero, zero-le, ℕ, ◌≤◌}
use Rattle.plates.specs.Profile.{live}
use Rattle.trellises.proofs.Digits.{mod-digit}
use Rattle.trellises.proofs.OneMoreRow.{and-false, taking, with-row}
use Rattle.trellises.proofs.SectionAgrees.{live-count}
use Rattle.trellises.proofs.SectionFits.{column-below, count-at-most, ending-at-most}
use Rattle.trellises.specs.declared.Section.{Section}
use Rattle.trellises.specs.SectionOf.{HasRoom, held, is_active, quiet, section_of, with_active, with_row}
use Rattle.trellises.specs.Smallest.{active_at}
use Rattle.trellises.specs.States.{active}
use Rattle.words.proofs.Ends.{first-one-is, last-one-is}
use Rattle.words.proofs.Word.{bit-lt}
use Rattle.words.specs.Choice.{more}
use Rattle.words.specs.Ends.{FirstOne, LastOne, first, firsts, last, lasts}
use Rattle.words.specs.Word.{bit}

-- the first one that `first_one` promises, of any word
first_word : (w f : ℕ) → w < 2 ^ 64 → FirstOne w f → f ≡ first w
unfolding first
first_word zero f h g = g.none refl ∙ sym (trailing_of_zero 64)
first_word (suc w) f h g = first-one-is (suc-le-suc zero-le) h g

-- a first one below 64 is that of a word that has one
some_word : (w f : ℕ) → FirstOne w f → f < 64 → 0 < w
some_word zero f g h = absurd (omega (arith, g.none refl))
some_word (suc w) f g h = suc-le-suc zero-le

-- a section with another column
abbrev with_column : Section → ℕ → Section
with_column c n = record { live = c.live; begins = c.begins; ends = c.ends; ending = c.ending; column = n }

pub held_same : (c : Section) → c.column < 2 ^ 64 → held c ≡ c
held_same c h = ap (with_column c) (mod-eq_of_lt h)

-- a digit appended to a 64-bit word
doubled-mod : (x d : ℕ) → d < 2 → (x * 2 + d) % 2 ^ 64 ≡ x * 2 % 2 ^ 64 + d
doubled-mod x d h = omega (arith, mod-digit (x * 2 + d) 63, mod-digit (x * 2) 63)

pub appended : (x d : ℕ) → d < 2 → bit_or (x * 2 % 2 ^ 64) d ≡ (x * 2 + d) % 2 ^ 64
appended x d h =
    let even : x * 2 % 2 ^ 64 ≡ x % 2 ^ 63 * 2 ^ 1 = omega (arith, mod-digit (x * 2) 63) in
    ap (λ (y : ℕ). bit_or y d) even ∙ or_shifted (x % 2 ^ 63) 1 d h ∙ ap (λ (y : ℕ). y + d) (sym even) ∙ sym (doubled-mod x d h)

-- ---- one more row

module _ (t row : ℕ) (c : Section) (room : HasRoom t c) (word : row < 2 ^ 64) (f : ℕ) (is-first : FirstOne row f) where
  -- it begins later
  pub held-early : t < f → c ≡ held (with_row t row c)
  unfolding with_row
  held-early h = rw (lt-leb (first row) t (omega (arith, first_word row f word is-first))) (sym (held_same c room.column))

  module _ (begun : f ≤ t) (l : ℕ) (is_last : LastOne row l) where
    last_word : l ≡ last row
    last_word = last-one-is (some_word row f is-first (omega (arith, room.position))) word is_last

    -- it ended before
    pub held-late : l < t → c ≡ held (with_row t row c)
    unfolding with_row
    held-late h =
        rw (lt-leb t (last row) (omega (arith, last_word)), and-false (leb (first row) t)) (sym (held_same c room.column))

    -- it is active
    pub held-active : t ≤ l → {digit live' ending' : ℕ} {begins' ends' : Bool} → digit ≡ bit row t → live' ≡ c.live + bool_byte (ltb f t)
        → begins' ≡ (eqb f t || c.begins) → ends' ≡ (eqb l t || c.ends) → ending' ≡ cond (eqb l t) 0 (c.ending + 1)
        → ◌≡◌ {A = Section} (record { live = live'; begins = begins'; ends = ends'; ending = ending'; column = bit_or (c.column * 2 % 2 ^ 64) digit })
        (held (with_row t row c))
    unfolding with_row with_active
    held-active h {digit = digit} {live' = live'} {ending' = ending'} g a b d e =
        rw (le-leb (first row) t (omega (arith, first_word row f word is-first)), le-leb t (last row) (omega (arith, last_word)), ← (first_word row f word is-first), ← last_word)
        (λ i. record { live = lives i; begins = b i; ends = d i; ending = endings i; column = columns i })
      where
        up : (x : Bool) (n : ℕ) → n + bool_byte x ≡ more x n
        up true n = add-one n
        up false n = omega arith

        lives : live' ≡ more (ltb f t) c.live
        lives = a ∙ up (ltb f t) c.live

        endings : ending' ≡ cond (eqb l t) 0 (suc c.ending)
        endings = e ∙ ap (cond (eqb l t) 0) (add-one c.ending)

        columns : bit_or (c.column * 2 % 2 ^ 64) digit ≡ (c.column * 2 + bit row t) % 2 ^ 64
        columns = ap (bit_or (c.column * 2 % 2 ^ 64)) g ∙ appended c.column (bit row t) (bit-lt t row)

-- ---- all rows

-- at 64 and beyond no row is active
pub quiet-past : (rows : List ℕ) (t : ℕ) → 64 ≤ t → section_of rows t ≡ quiet
unfolding with_row last
quiet-past [] t h = refl
quiet-past (row ∷ rows) t h =
    rw (lt-leb t (last row) (omega arith), and-false (leb (first row) t)) (quiet-past rows t h)

-- what a 64-bit column does not hold does not come back
pub held-row : (t row : ℕ) (c : Section) → held (with_row t row (held c)) ≡ held (with_row t row c)
held-row t row c =
    rw (with-row t row c, with-row t row (held c)) (go (is_active t row) (ltb (first row) t) (ltb t (last row)))
  where
    columns : (x d : ℕ) → (x % 2 ^ 64 * 2 + d) % 2 ^ 64 ≡ (x * 2 + d) % 2 ^ 64
    columns x d = omega arith

    go : (a b g : Bool) → held (taking a b g (bit row t) (held c)) ≡ held (taking a b g (bit row t) c)
    go false b g = ap (with_column c) (mod-mod c.column (2 ^ 64))
    go true b g = ap (with_column (taking true b g (bit row t) c)) (columns c.column (bit row t))

-- rows that are taken in leave room for one more
pub has_room : (rows : List ℕ) (t : ℕ) → t < 64 → length rows + 1 < 2 ^ 64 → HasRoom t (held (section_of rows t))
has_room rows t h l = record {
  position = h;
  live = omega (arith, live-count t rows, count-at-most (length rows) (live (firsts rows) (lasts rows) t));
  ending = omega (arith, ending-at-most t rows, count-at-most (length rows) (active (firsts rows) (lasts rows) t));
  column = mod-lt (section_of rows t).column (pow_pos 64);
}

-- from the rows behind row j to those from row j on
pub held_on : (rows : List ℕ) (t j : ℕ) → j < length rows
    → held (with_row t (get_or rows j 0) (held (section_of (drop (suc j) rows) t))) ≡ held (section_of (drop j rows) t)
held_on rows t j h = rw (drop-cons rows j 0 h) (held-row t (get_or rows j 0) (section_of (drop (suc j) rows) t))

-- up to 64 rows the column holds them all
pub held_whole : (rows : List ℕ) (t : ℕ) → length rows ≤ 64 → held (section_of rows t) ≡ section_of rows t
held_whole rows t h =
    let a : active_at rows t ≤ 64 = omega (arith, count-at-most (length rows) (active (firsts rows) (lasts rows) t)) in
    held_same (section_of rows t) (lt_of_lt_of_le (column-below t rows) (pow_mono a))
