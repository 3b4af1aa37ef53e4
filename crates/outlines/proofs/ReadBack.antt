-- Theorem: a sheet as we print it is read as its matrix and mask.
use Rattle.plates.specs.declared.Refusal.{Refusal}
use Rattle.std.proofs.Common.{Option, Some, None, Result, Ok}
use borrow.Author.Tests.{eq-eqb, le-leb, le-ltb, ne_eqb}
use lib.Dec.{eqb}
use lib.ListN.{drop, get_or, length}
use mathlib.Core.Bool.{false, true}
use mathlib.Core.List.{◌++◌, List, [], append_assoc, ◌∷◌}
use mathlib.Core.Logic.{inl, inr, ◌⊎◌}
use mathlib.Core.Path.{◌≡◌, ap, refl, subst, sym, ◌∙◌}
use native.Mathlib.Decide.{dec_lt, ℕ_discrete}
use native.Mathlib.Nat.{zero-add}
use native.Mathlib.Omega.{arith}
use Prim.Native.Nat.{◌%◌, ◌*◌, ◌+◌, ◌-◌, ◌/◌, ◌<◌, ◌^◌, suc, zero, ℕ, ◌≤◌}
use Rattle.listings.proofs.Backwards.{positions-at, positions-length}
use Rattle.listings.proofs.Digits.{decimal-low}
use Rattle.listings.specs.Decimal.{decimal}
use Rattle.listings.specs.Lines.{line, positions}
use Rattle.outlines.proofs.Fitting.{sheet-length}
use Rattle.outlines.proofs.Putting.{tens}
use Rattle.outlines.specs.SheetText.{cover_line, letter_of, mask_lines, row_line, row_lines, sheet_text}
use Rattle.plates.specs.declared.Kind.{Kind}
use Rattle.plates.specs.declared.Kind.TheVariants.{G, H}
use Rattle.sheets.specs.declared.line.Fault.{Fault}
use Rattle.sheets.proofs.Characters.{word_small}
use Rattle.sheets.proofs.Positions.{position_first}
use Rattle.sheets.specs.Covers.{cover_fields, cover_is, cover_of}
use Rattle.sheets.specs.declared.body.Ending.TheVariants.{Fine}
use Rattle.sheets.specs.declared.cover.Cover.{Cover}
use Rattle.sheets.specs.declared.line.Came.TheVariants.{Nothing}
use Rattle.sheets.specs.declared.line.Line.TheVariants as L
use Rattle.sheets.specs.declared.Order.TheVariants.{First}
use Rattle.sheets.specs.Lines.{front, line_of, row_is, row_made, rows_of}
use Rattle.sheets.specs.Masks.{mask_front, mask_in, mask_is, mask_of, masks_in}
use Rattle.sheets.specs.Numbers.{number_of}
use Rattle.sheets.specs.Rows.{bit_of, bits_only, row_of, word_from}
use Rattle.sheets.specs.Sheet.{Contents, bad_by, contents, cover_front, ending_after, reading, reading_by, says, verdict}
use Rattle.sheets.specs.Text.{fields, lines, parts}
use Rattle.sheets.specs.Words.{cover, end, first, mask, row}
use Rattle.words.proofs.Word.{below-ext, bit-cases}
use Rattle.words.specs.Word.{bit}

-- ---- parts of a text

-- a text without b
abbrev Free : ℕ → List ℕ → Type 0
Free b [] = Unit {0}
Free b (x ∷ xs) = (eqb x b ≡ false) × Free b xs

module _ (b : ℕ) where
  free-append : (xs ys : List ℕ) → Free b xs → Free b ys → Free b (xs ++ ys)
  free-append [] ys h k = k
  free-append (x ∷ xs) ys h k = (h.0, free-append xs ys h.1 k)

  part-one : (p : List ℕ) → Free b p → parts b p ≡ p ∷ []
  part-one [] h = refl
  part-one (x ∷ xs) h = rw (h.0, part-one xs h.1)

  part-more : (p s : List ℕ) → Free b p → parts b (p ++ b ∷ s) ≡ p ∷ parts b s
  part-more [] s h = rw (eq-eqb b b refl)
  part-more (x ∷ xs) s h = rw (h.0, part-more xs s h.1)

  -- digits are beyond both tab and line feed
  positions-free : b < 48 → (w p n : ℕ) → Free b (positions w p n)
  positions-free l w p zero = tt
  positions-free l w p (suc n) = (ne_eqb (48 + bit w p) b (λ e. omega (arith, e, l)), positions-free l w (suc p) n)

  decimal-free : b < 48 → (n : ℕ) → n < 100 → Free b (decimal n)
  decimal-free l n h = by (dec_lt n 10)
    where
      by : Dec (n < 10) → Free b (decimal n)
      by (yes s) = rw (decimal-low n s) (ne_eqb (48 + n) b (λ e. omega (arith, e, l)), tt)
      by (no s) =
          rw (tens n (omega arith) h) (ne_eqb (48 + n / 10) b (λ e. omega (arith, e, l)), (ne_eqb (48 + n % 10) b (λ e. omega (arith, e, l)), tt))

-- ---- the characters of a word

bit-back : (w i : ℕ) → bit_of (48 + bit w i) ≡ bit w i
bit-back w i = by (bit-cases w i)
  where
    by : (bit w i ≡ 0) ⊎ (bit w i ≡ 1) → bit_of (48 + bit w i) ≡ bit w i
    by (inl e) = rw e
    by (inr e) = rw e

bits-only : (w p n : ℕ) → bits_only (positions w p n) ≡ true
bits-only w p zero = refl
bits-only w p (suc n) = by (bit-cases w p) (bits-only w (suc p) n)
  where
    by : (bit w p ≡ 0) ⊎ (bit w p ≡ 1) → bits_only (positions w (suc p) n) ≡ true → bits_only (positions w p (suc n)) ≡ true
    by (inl e) f = rw (e, f)
    by (inr e) f = rw (e, f)

word_back : (n w : ℕ) → w < 2 ^ n → word_from (positions w 0 n) ≡ w
word_back n w h =
    below-ext n (word_from (positions w 0 n)) w (rw (positions-length w 0 n) at (word_small (positions w 0 n))) h
    (λ i l. position_first (positions w 0 n) i (omega (arith, positions-length w 0 n, l))
    ∙ ap bit_of (positions-at w 0 n i l) ∙ bit-back w (0 + i) ∙ ap (bit w) (zero-add i))

row_back : (n w : ℕ) → w < 2 ^ n → row_of n First (positions w 0 n) ≡ Some w
row_back n w h = rw (eq-eqb (length (positions w 0 n)) n (positions-length w 0 n), bits-only w 0 n, word_back n w h)

-- ---- the rows

-- the line of a row or mask without the line feed
abbrev row_text : ℕ → ℕ → List ℕ
row_text n w = row ++ 9 ∷ positions w 0 n

abbrev mask_text : ℕ → ℕ → List ℕ
mask_text n w = mask ++ 9 ∷ positions w 0 n

-- the rows' lines, the line end, and nothing after
abbrev texts : ℕ → List ℕ → List (List ℕ)
texts n [] = end ∷ [] ∷ []
texts n (w ∷ ws) = row_text n w ∷ texts n ws

module _ (n : ℕ) where
  row-fields : (w : ℕ) → fields (row_text n w) ≡ row ∷ positions w 0 n ∷ []
  row-fields w =
      part-more 9 row (positions w 0 n) (refl, (refl, (refl, tt)))
      ∙ ap (λ (rest : List (List ℕ)). row ∷ rest) (part-one 9 (positions w 0 n) (positions-free 9 (omega arith) w 0 n))

  mask-fields : (w : ℕ) → fields (mask_text n w) ≡ mask ∷ positions w 0 n ∷ []
  mask-fields w =
      part-more 9 mask (positions w 0 n) (refl, (refl, (refl, (refl, tt))))
      ∙ ap (λ (rest : List (List ℕ)). mask ∷ rest) (part-one 9 (positions w 0 n) (positions-free 9 (omega arith) w 0 n))

  row-line : (w : ℕ) → w < 2 ^ n → line_of n First Nothing (fields (row_text n w)) ≡ Ok (L.Row w)
  row-line w h = ap (line_of n First Nothing) (row-fields w) ∙ ap (λ r. row_made (row_is r)) (row_back n w h)

  row-front : (w : ℕ) (ws : List ℕ) → w < 2 ^ n → front n First Nothing (row_text n w ∷ texts n ws) ≡ Ok (L.Row w)
  row-front w [] h = row-line w h
  row-front w (x ∷ ws) h = row-line w h

  rows_back : (ws : List ℕ) → ((j : ℕ) → j < length ws → get_or ws j 0 < 2 ^ n) → rows_of n First (texts n ws) ≡ ws
  rows_back [] h = refl
  rows_back (w ∷ ws) h = rw (row-front w ws (h 0 (omega arith)), rows_back ws (λ j l. h (suc j) (omega arith)))

  after-rows : (ws : List ℕ) → drop (length ws) (texts n ws) ≡ end ∷ [] ∷ []
  after-rows [] = refl
  after-rows (w ∷ ws) = after-rows ws

  row-feed : (w : ℕ) (s : List ℕ) → row_line n w ++ s ≡ row_text n w ++ 10 ∷ s
  row-feed w s = simp append_assoc

  rows-lines : (ws : List ℕ) → lines (row_lines n ws ++ line end []) ≡ texts n ws
  rows-lines [] = refl
  rows-lines (w ∷ ws) =
      ap lines (append_assoc (row_line n w) (row_lines n ws) (line end []) ∙ row-feed w (row_lines n ws ++ line end []))
      ∙ part-more 10 (row_text n w) (row_lines n ws ++ line end []) (refl, (refl, (refl, (refl, positions-free 10 (omega arith) w 0 n))))
      ∙ ap (λ (rest : List (List ℕ)). row_text n w ∷ rest) (rows-lines ws)

-- ---- the mask

-- the lines after the cover, of which the mask's is one or none
record MaskRead (n word : ℕ) (rows : List ℕ) (ls : List (List ℕ)) : Type 0 where
  found : Result (Option ℕ) Fault
  is : mask_front n First ls ≡ found
  says_word : mask_in found ≡ word
  left : drop (masks_in found) ls ≡ texts n rows
  fine : (c : Contents) → ending_after c (drop (masks_in found) ls) ≡ Fine → bad_by found c ls ≡ Ok tt
  long : (l : List ℕ) → cover_front (l ∷ ls) ≡ cover_of (fields l)
  text : lines (mask_lines n word ++ (row_lines n rows ++ line end [])) ≡ ls

module _ (n : ℕ) (rows : List ℕ) where
  -- no mask line
  none-front : (ws : List ℕ) → mask_front n First (texts n ws) ≡ Ok None
  none-front [] = refl
  none-front (w ∷ []) = ap (mask_of n First) (row-fields n w)
  none-front (w ∷ x ∷ ws) = ap (mask_of n First) (row-fields n w)

  none-long : (ws l : List ℕ) → cover_front (l ∷ texts n ws) ≡ cover_of (fields l)
  none-long [] l = refl
  none-long (w ∷ ws) l = refl

  unmasked : MaskRead n 0 rows (texts n rows)
  unfolding mask_lines
  unmasked = record {
    found = Ok None;
    is = none-front rows;
    says_word = refl;
    left = refl;
    fine = λ c e. rw e;
    long = none-long rows;
    text = rows-lines n rows;
  }

  module _ (word : ℕ) (h : word < 2 ^ n) (some : word ≡ 0 → ⊥) where
    mask_is_lem : (ws : List ℕ) → mask_front n First (mask_text n word ∷ texts n ws) ≡ Ok (Some word)
    mask_is_lem [] = ap (mask_of n First) (mask-fields n word) ∙ ap (λ r. mask_is (row_is r)) (row_back n word h)
    mask_is_lem (w ∷ ws) = ap (mask_of n First) (mask-fields n word) ∙ ap (λ r. mask_is (row_is r)) (row_back n word h)

    mask-feed : (s : List ℕ) → line mask (positions word 0 n ∷ []) ++ s ≡ mask_text n word ++ 10 ∷ s
    mask-feed s = simp append_assoc

    masked : MaskRead n word rows (mask_text n word ∷ texts n rows)
    unfolding mask_lines
    masked = record {
      found = Ok (Some word);
      is = mask_is_lem rows;
      says_word = refl;
      left = refl;
      fine = λ c e. rw e;
      long = λ l. refl;
      text = rw (ne_eqb word 0 some) (ap lines (mask-feed (row_lines n rows ++ line end []))
          ∙ part-more 10 (mask_text n word) (row_lines n rows ++ line end []) (refl, (refl, (refl, (refl, (refl, positions-free 10 (omega arith) word 0 n)))))
          ∙ ap (λ (rest : List (List ℕ)). mask_text n word ∷ rest) (rows-lines n rows));
    }

  -- with it or without
  mask-read : (word : ℕ) → word < 2 ^ n → (ls : List (List ℕ)) × MaskRead n word rows ls
  mask-read word h = by (ℕ_discrete word 0)
    where
      by : Dec (word ≡ 0) → (ls : List (List ℕ)) × MaskRead n word rows ls
      by (yes e) = subst (λ (w : ℕ). (ls : List (List ℕ)) × MaskRead n w rows ls) (sym e) (texts n rows, unmasked)
      by (no e) = (mask_text n word ∷ texts n rows, masked word h e)

-- ---- the cover

number-back : (n : ℕ) → n < 100 → number_of 3 (decimal n) ≡ Some n
number-back n h = by (dec_lt n 10)
  where
    by : Dec (n < 10) → number_of 3 (decimal n) ≡ Some n
    by (yes s) =
        let e : 0 * 10 + (48 + n - 48) ≡ n = omega arith in
        rw (decimal-low n s, le-leb 48 (48 + n) (omega arith), le-leb (48 + n) 57 (omega arith), e)
    by (no s) =
        let e : (0 * 10 + (48 + n / 10 - 48)) * 10 + (48 + n % 10 - 48) ≡ n = omega arith in
        rw (
          tens n (omega arith) h,
          ne_eqb (48 + n / 10) 48 (λ e. omega (arith, e)),
          le-leb 48 (48 + n / 10) (omega arith),
          le-leb (48 + n / 10) 57 (omega arith),
          le-leb 48 (48 + n % 10) (omega arith),
          le-leb (48 + n % 10) 57 (omega arith),
          e,
        )

-- its line without the line feed
abbrev cover_text : Kind → ℕ → List ℕ
cover_text kind n = cover ++ 9 ∷ (decimal n ++ 9 ∷ letter_of kind ∷ 9 ∷ first)

abbrev cover_says : Kind → ℕ → Cover
cover_says kind n = record { n = n; kind = kind; order = First }

module _ (n : ℕ) (h : n < 100) where
  -- what follows n
  after-n : (kind : Kind) → fields (letter_of kind ∷ 9 ∷ first) ≡ (letter_of kind ∷ []) ∷ first ∷ []
  after-n G = refl
  after-n H = refl

  letter-free : (kind : Kind) → Free 10 (9 ∷ letter_of kind ∷ 9 ∷ first)
  letter-free G = (refl, (refl, (refl, (refl, (refl, (refl, (refl, (refl, tt))))))))
  letter-free H = (refl, (refl, (refl, (refl, (refl, (refl, (refl, (refl, tt))))))))

  cover-fields : (kind : Kind) → fields (cover_text kind n) ≡ cover ∷ decimal n ∷ (letter_of kind ∷ []) ∷ first ∷ []
  cover-fields kind =
      part-more 9 cover (decimal n ++ 9 ∷ letter_of kind ∷ 9 ∷ first) (refl, (refl, (refl, (refl, (refl, tt)))))
      ∙ ap (λ (rest : List (List ℕ)). cover ∷ rest) (part-more 9 (decimal n) (letter_of kind ∷ 9 ∷ first) (decimal-free 9 (omega arith) n h)
      ∙ ap (λ (rest : List (List ℕ)). decimal n ∷ rest) (after-n kind))

  cover-is : (kind : Kind) → cover_of (fields (cover_text kind n)) ≡ Ok (cover_says kind n)
  unfolding cover_fields
  cover-is G = ap cover_of (cover-fields G) ∙ ap (λ (m : Option ℕ). cover_is m (Some G) (Some First)) (number-back n h)
  cover-is H = ap cover_of (cover-fields H) ∙ ap (λ (m : Option ℕ). cover_is m (Some H) (Some First)) (number-back n h)

  cover-feed : (kind : Kind) (s : List ℕ) → cover_line kind n ++ s ≡ cover_text kind n ++ 10 ∷ s
  unfolding cover_line
  cover-feed kind s = simp append_assoc

-- ---- a sheet

-- what it says
abbrev pub canonical : Kind → ℕ → ℕ → List ℕ → Contents
canonical kind n word rows = record { n = n; kind = kind; order = First; mask = word; rows = rows; heard = false; blocks = []; counters = [] }

module _ (kind : Kind) (n word : ℕ) (rows : List ℕ) (some : 1 ≤ n) (short : n ≤ 64) (few : length rows ≤ 64) (reach : word < 2 ^ n)
    (below : (j : ℕ) → j < length rows → get_or rows j 0 < 2 ^ n) where
  abbrev text : List ℕ
  text = sheet_text kind n word rows

  small : n < 100
  small = omega arith

  -- its lines after the cover
  abbrev ls : List (List ℕ)
  ls = (mask-read n rows word reach).0

  m : MaskRead n word rows ls
  m = (mask-read n rows word reach).1

  sheet-lines : lines text ≡ cover_text kind n ∷ ls
  unfolding sheet_text
  sheet-lines =
      ap lines (cover-feed n small kind (mask_lines n word ++ (row_lines n rows ++ line end [])))
      ∙ part-more 10 (cover_text kind n) (mask_lines n word ++ (row_lines n rows ++ line end [])) (
        refl,
        (
          refl,
          (
            refl,
            (
              refl,
              (
                refl,
                (
                  refl,
                  free-append 10 (decimal n) (9 ∷ letter_of kind ∷ 9 ∷ first) (decimal-free 10 (omega arith) n small)
                      (letter-free n small kind),
                ),
              ),
            ),
          ),
        ),
      )
      ∙ ap (λ (rest : List (List ℕ)). cover_text kind n ∷ rest) m.text

  cover-back : cover_front (cover_text kind n ∷ ls) ≡ Ok (cover_says kind n)
  cover-back = m.long (cover_text kind n) ∙ cover-is n small kind

  says-it : contents text ≡ canonical kind n word rows
  unfolding contents
  says-it = rw (sheet-lines, cover-back, m.is, m.says_word, m.left, rows_back n rows below, after-rows n rows)

  ends : ending_after (canonical kind n word rows) (drop (masks_in m.found) ls) ≡ Fine
  ends = rw (m.left, after-rows n rows)

  accepted : verdict text ≡ Ok tt
  unfolding verdict
  accepted =
      rw (
        says-it,
        sheet-lines,
        cover-back,
        m.is,
        m.fine (canonical kind n word rows) ends,
        le-ltb 32768 (length text) (omega (arith, sheet-length kind n word rows short few)),
        ne_eqb n 0 (λ e. omega (arith, e)),
        le-ltb 64 n short,
        le-ltb 64 (length rows) few,
      )

  -- the theorem
  pub read_back : reading text ≡ says (canonical kind n word rows)
  read_back = ap (λ (v : Result (Unit {0}) Refusal). reading_by v (contents text)) accepted ∙ ap says says-it
