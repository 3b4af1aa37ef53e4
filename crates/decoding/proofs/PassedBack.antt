-- A section passed from its far side: its numbers by the marks of its active rows, and a column gathered over them.
use borrow.Author.Tests.{le-ltb, lt-ltb}
use lib.Bits.{bit_and, bit_or, bit_xor}
use lib.Count.{ones, ones-le}
use lib.Dec.{ltb}
use lib.ListN.{get_or, length, take}
use lib.Pow.{pow_pos, split}
use lib.Seq.{get_or-take}
use mathlib.Core.Bool.{Bool, cond, false, true}
use mathlib.Core.List.{List}
use mathlib.Core.Path.{ap, ap₂, refl, subst, sym, ◌∙◌, ◌≡◌}
use native.Mathlib.Decide.{dec_lt}
use native.Mathlib.Nat.{mod-eq_of_lt, mod-lt}
use native.Mathlib.Omega.{arith}
use Prim.Native.Nat.{◌%◌, ◌*◌, ◌+◌, ◌-◌, ◌/◌, ◌<◌, ◌^◌, suc, ℕ, ◌≤◌}
use Rattle.decoding.proofs.BegunRows.{begun-few, begun-next, begun-row, none-begins}
use Rattle.decoding.proofs.Digits.{bit-low}
use Rattle.decoding.proofs.LiveMarks.{last-active, marks-below, marks-bit, with-beginning, without-beginning}
use Rattle.decoding.proofs.MarkCounts.{ending-by, live_ones}
use Rattle.decoding.proofs.Packed.{digit-masked, one-off}
use Rattle.decoding.proofs.PassedRows.{active-below, counted}
use Rattle.decoding.specs.declared.live.Live.{Live}
use Rattle.decoding.specs.LiveRows.{AllActive, EndsAre, LiveAt, PassedTo, PlateRows, active_marks, begun_before, ending_by, is_live, live_marks}
use Rattle.trellises.proofs.AmongRows.{TakenFrom, all-taken, among_first, none-taken, one-taken, position, row_within, section-of-active}
use Rattle.trellises.proofs.HeldSection.{appended}
use Rattle.trellises.proofs.OneBegins.{section-begins}
use Rattle.trellises.specs.declared.Section.{Section}
use Rattle.trellises.specs.RowsAmong.{rows_among}
use Rattle.trellises.specs.SectionOf.{held, is_active, quiet, section_of, with_active, with_row}
use Rattle.words.proofs.Ends.{one-before}
use Rattle.words.proofs.Span.{zero_one}
use Rattle.words.proofs.Word.{bit-lt, bits_below}
use Rattle.words.specs.Choice.{more}
use Rattle.words.specs.Ends.{LastOne, firsts}
use Rattle.words.specs.Span.{Last}
use Rattle.words.specs.Word.{bit}

-- ---- the column, row after row

-- the rows named from some row on are taken in, as far as the column goes
pub record ColumnFrom (rows : List ℕ) (which t left column : ℕ) : Type 0 where
  pub section : Section
  pub taken : TakenFrom rows which t left section
  pub same : column ≡ section.column

-- a one of a number's lowest digits is a one of the number
mod-one : (n x j : ℕ) → bit (x % 2 ^ n) j ≡ 1 → bit x j ≡ 1
mod-one n x j e = go (dec_lt j n)
  where
    go : Dec (j < n) → bit x j ≡ 1
    go (yes h) = ap (λ (y : ℕ). bit y j) (sym (split x n)) ∙ bit-low n (x / 2 ^ n) (x % 2 ^ n) j h ∙ e
    go (no h) = absurd (zero_one (bits_below n (x % 2 ^ n) (mod-lt x (pow_pos n)) j (omega arith)) e)

module _ {rows : List ℕ} {which t : ℕ} where
  pub column-start : length rows ≡ 64 → which < 2 ^ 64 → ColumnFrom rows which t which 0
  column-start s h = record {
    section = quiet;
    taken = none-taken rows which t (sym (ap (λ (n : ℕ). which % 2 ^ n) s ∙ mod-eq_of_lt h));
    same = refl;
  }

  pub column-end : {left column : ℕ} → ColumnFrom rows which t left column → left ≤ 0 → column ≡ (held (section_of (rows_among rows which) t)).column
  column-end c e = c.same ∙ ap (λ (z : Section). z.column) (all-taken rows which t c.taken (omega arith))

  -- the last row that is left
  module _ {left column j : ℕ} (c : ColumnFrom rows which t left column) (some : 0 < left) (o : LastOne left j) where
    last-left : Last left j
    last-left = o.some some

    pub last_row : j < length rows
    last_row = row_within rows which t c.taken last-left

    module _ (word : which < 2 ^ 64) where
      pub last-place : j < 64
      last-place = position rows which t c.taken last-left word

      off : bit_xor left (1 * 2 ^ j % 2 ^ 64) ≡ left - 2 ^ j
      off = one-off left j last-place last-left.one

      pub left-falls : bit_xor left (1 * 2 ^ j % 2 ^ 64) < left
      left-falls = omega (arith, off, pow_pos j)

      column-with : (row : ℕ) (s : Section) → is_active t row ≡ true → (s.column * 2 + bit row t) % 2 ^ 64 ≡ (held (with_row t row s)).column
      unfolding with_row with_active
      column-with row s e = rw e

      -- it is taken in
      pub column-on : AllActive rows which t
          → ColumnFrom rows which t (bit_xor left (1 * 2 ^ j % 2 ^ 64)) (bit_or (column * 2 % 2 ^ 64) (bit_and (get_or rows j 0 / 2 ^ t) 1))
      column-on a =
          let one : bit which j ≡ 1 = mod-one c.taken.from which j (ap (λ (y : ℕ). bit y j) (sym c.taken.unseen) ∙ last-left.one) in
          record {
            section = held (with_row t (get_or rows j 0) c.section);
            taken = rw off (one-taken rows which t c.taken last-left refl);
            same = ap₂ (λ (x d : ℕ). bit_or (x * 2 % 2 ^ 64) d) c.same (digit-masked (get_or rows j 0) t)
                ∙ appended c.section.column (bit (get_or rows j 0) t) (bit-lt t (get_or rows j 0))
                ∙ column-with (get_or rows j 0) c.section (a j last_row one);
          }

-- ---- the section of the active rows

module _ {rows : List ℕ} {k : ℕ} (p : PlateRows rows k) (t : ℕ) {which : ℕ} (e : which ≡ active_marks (take k rows) t) where
  abbrev plate : List ℕ
  plate = take k rows

  -- a row named is a row of the plate
  named : (j : ℕ) → bit which j ≡ 1 → j < k
  named j o = one-before k (active_marks plate t) j (active-below p t) (ap (λ (w : ℕ). bit w j) (sym e) ∙ o)

  pub all-active : AllActive rows which t
  all-active j h o =
      let g = named j o in
      subst (λ (row : ℕ). is_active t row ≡ true) (get_or-take k rows j 0 g)
      (passes (is_active t (get_or plate j 0)) (sym (marks-bit (is_active t) plate j (omega (arith, counted p))) ∙ ap (λ (w : ℕ). bit w j) (sym e) ∙ o))
    where
      passes : (b : Bool) → ◌≡◌ {A = ℕ} (cond b 1 0) 1 → b ≡ true
      passes true q = refl
      passes false q = absurd (omega arith)

  section-is : held (section_of (rows_among rows which) t) ≡ section_of (take k rows) t
  section-is =
      ap (λ (w : ℕ). held (section_of (rows_among rows w) t)) e
      ∙ ap (λ (l : List ℕ). held (section_of l t)) (among_first k rows (active_marks plate t) (active-below p t))
      ∙ section-of-active plate (active_marks plate t) t (omega (arith, counted p, p.few)) (marks-bit (is_active t) plate)

  -- by whether a row begins
  by-begins : {A : Type 0} → ((j : ℕ) → j < length (take k rows) → firsts (take k rows) j ≡ t → (section_of (take k rows) t).begins ≡ true → A)
      → (((j : ℕ) → j < length (take k rows) → firsts (take k rows) j ≡ t → ⊥) → (section_of (take k rows) t).begins ≡ false → A) → A
  by-begins {A} some none = go (section_of plate t).begins refl
    where
      go : (b : Bool) → (section_of (take k rows) t).begins ≡ b → A
      go true q = let b = (section-begins plate p.spans t).0 q in some b.row b.there b.here q
      go false q = none (none-begins plate p.spans t q) q

  -- where so many rows have begun behind the section, the last of them begins in it, or none does
  module _ {next : ℕ} (b : next ≡ begun_before (take k rows) (suc t)) where
    pub last-there : {j : ℕ} → next ≡ suc j → j < k
    last-there q = omega (arith, b, begun-few (suc t) plate, counted p)

    pub last_begins : {j : ℕ} → next ≡ suc j → firsts (take k rows) j ≡ t → live_marks (take k rows) t + 2 ^ j ≡ which
    last_begins {j} q f = with-beginning plate p.spans t j (omega (arith, last-there q, counted p)) f ∙ sym e

    pub before_last : {j : ℕ} → next ≡ suc j → firsts (take k rows) j ≡ t
        → LiveAt (take k rows) t (record { marks = bit_xor which (1 * 2 ^ j % 2 ^ 64); next = j })
    before_last {j} q f = record {
      marks_are = one-off which j (omega (arith, last-there q, p.few)) one ∙ omega (arith, last_begins q f);
      next_is = sym (begun-row plate p.spans t (record { row = j; there = omega (arith, last-there q, counted p); here = f }));
    }
      where
        one : bit which j ≡ 1
        one = ap (λ (w : ℕ). bit w j) e ∙ (last-active plate p.spans t j (omega (arith, last-there q, counted p)) f).one

    pub before-all : ((j : ℕ) → next ≡ suc j → firsts (take k rows) j ≡ t → ⊥) → LiveAt (take k rows) t (record { marks = which; next = next })
    before-all n =
        by-begins (λ j h f q. absurd (n j (begun q ∙ ap suc (begun-row plate p.spans t (record { row = j; there = h; here = f }))) f))
        (λ m q. record { marks_are = e ∙ sym (without-beginning plate p.spans t m); next_is = begun q })
      where
        begun : {x : Bool} → (section_of (take k rows) t).begins ≡ x → next ≡ more x (begun_before (take k rows) t)
        begun q = b ∙ begun-next plate p.spans t ∙ ap (λ (x : Bool). more x (begun_before plate t)) q

  -- the section passed
  module _ {ends : List ℕ} (a : EndsAre (take k rows) ends) (h : t < 64) {before : Live} (l : LiveAt (take k rows) t before) where
    pub before-few : ones before.marks ≤ 64
    before-few =
        let m : before.marks < 2 ^ length plate = subst (λ (w : ℕ). w < 2 ^ length plate) (sym l.marks_are) (marks-below (is_live t) plate) in
        omega (arith, counted p, p.few, ones-le (length plate) before.marks m)

    begins-is : ltb before.marks which ≡ (section_of (take k rows) t).begins
    begins-is =
        by-begins (λ j g f q. lt-ltb before.marks which (omega (arith, e, l.marks_are, with-beginning plate p.spans t j g f, pow_pos j)) ∙ sym q)
        (λ n q. le-ltb before.marks which (omega (arith, e, l.marks_are, without-beginning plate p.spans t n)) ∙ sym q)

    pub passed-back : {ending column : ℕ} → ending ≡ ending_by which (get_or ends t 0) → column ≡ (held (section_of (rows_among rows which) t)).column
        → PassedTo (take k rows) t
        (record {
          section = record {
            live = ones before.marks;
            begins = ltb before.marks which;
            ends = ltb 0 (get_or ends t 0);
            ending = ending;
            column = column;
          };
          live = before;
        })
    passed-back {ending} {column} n m = record {
      section = λ i. record { live = lives i; begins = begins-is i; ends = ends_is i; ending = ending-is i; column = column-is i };
      live = l;
    }
      where
        lives : ones before.marks ≡ (section_of (take k rows) t).live
        lives = ap ones l.marks_are ∙ live_ones plate t

        ends_is : ltb 0 (get_or ends t 0) ≡ (section_of (take k rows) t).ends
        ends_is = (ending-by plate p.spans ends t a h).0

        ending-is : ending ≡ (section_of (take k rows) t).ending
        ending-is = n ∙ ap (λ (w : ℕ). ending_by w (get_or ends t 0)) e ∙ (ending-by plate p.spans ends t a h).1

        column-is : column ≡ (section_of (take k rows) t).column
        column-is = m ∙ ap (λ (z : Section). z.column) section-is
