-- A text put into a room piece by piece.
use borrow.Author.Tests.{ne_eqb}
use lib.ListN.{get_or, length, length-append, set, take}
use lib.Seq.{sets, take_all, take-suc}
use mathlib.Core.List.{◌++◌, List, [], append_assoc, append-nil, ◌∷◌}
use mathlib.Core.Path.{◌≡◌, ap, refl, subst, sym, ◌∙◌}
use native.Mathlib.Numerals.{add-one}
use native.Mathlib.Omega.{arith}
use Prim.Native.Nat.{◌%◌, ◌+◌, ◌/◌, ◌<◌, suc, zero, ℕ, ◌≤◌}
use Rattle.listings.proofs.Digits.{decimal-high, decimal-low}
use Rattle.listings.specs.Decimal.{decimal}
use Rattle.listings.specs.Lines.{line, positions}
use Rattle.outlines.specs.Putting.{Puts}
use Rattle.outlines.specs.SheetText.{cover_line, letter_of, mask_lines, row_line, row_lines, sheet_text}
use Rattle.plates.specs.declared.Kind.{Kind}
use Rattle.sheets.specs.Words.{mask}
use Rattle.words.specs.Word.{bit}

-- ---- pieces

-- one text after another
sets-append : (a b room : List ℕ) (at : ℕ) → sets room at (a ++ b) ≡ sets (sets room at a) (at + length a) b
sets-append [] b room at = let e : at + 0 ≡ at = omega arith in rw e
sets-append (x ∷ a) b room at =
    let e : at + suc (length a) ≡ suc at + length a = omega arith in
    sets-append a b (set room at x) (suc at) ∙ rw e

-- nothing is put
pub puts_none : (room : List ℕ) (at : ℕ) → Puts room at [] room at
puts_none room at = record { size = refl; stands = λ h. refl; next = λ h. omega arith }

-- a piece after a piece
pub puts_then : {room a room' b room'' : List ℕ} {at r k : ℕ} → Puts room at a room' r → Puts room' r b room'' k → Puts room at (a ++ b) room'' k
puts_then {room} {a} {room'} {b} {room''} {at} {r} {k} p q = record { size = q.size ∙ p.size; stands = stands; next = next }
  where
    -- where both have room, the first has
    front : at + length (a ++ b) < 18446744073709551616 → at + length a < 18446744073709551616
    front h = omega (arith, h, length-append a b)

    back : at + length (a ++ b) < 18446744073709551616 → r + length b < 18446744073709551616
    back h = omega (arith, h, length-append a b, p.next (front h))

    stands : at + length (a ++ b) < 18446744073709551616 → room'' ≡ sets room at (a ++ b)
    stands h = q.stands (back h) ∙ rw (p.stands (front h), p.next (front h)) (sym (sets-append a b room at))

    next : at + length (a ++ b) < 18446744073709551616 → k ≡ at + length (a ++ b)
    next h = omega (arith, q.next (back h), p.next (front h), length-append a b)

-- ---- a number of one or two digits

pub digit-put : {room room' : List ℕ} {at r x value : ℕ} → value < 10 → x ≡ 48 + value → Puts room at (x ∷ []) room' r → Puts room at (decimal value) room' r
digit-put {value = value} h e p = rw (decimal-low value h, ← e) p

pub tens : (n : ℕ) → 10 ≤ n → n < 100 → decimal n ≡ (48 + n / 10) ∷ (48 + n % 10) ∷ []
tens n h l = decimal-high n h (omega arith) ∙ rw (decimal-low (n / 10) (omega arith))

pub digits-put : {room room' room'' : List ℕ} {at r k x y value : ℕ} → 10 ≤ value → value < 100 → x ≡ 48 + value / 10 → y ≡ 48 + value % 10
    → Puts room at (x ∷ []) room' r → Puts room' r (y ∷ []) room'' k → Puts room at (decimal value) room'' k
digits-put {value = value} h l e f p q = rw (tens value h l, ← e, ← f) (puts_then p q)

-- ---- some bytes, from turn to turn

-- the first i of them are put
pub record BytesPut (room : List ℕ) (at : ℕ) (text : List ℕ) (i : ℕ) (room' : List ℕ) (r : ℕ) : Type 0 where
  pub within : i ≤ length text
  pub puts : Puts room at (take i text) room' r

module _ {room : List ℕ} {at : ℕ} {text : List ℕ} where
  pub bytes-start : BytesPut room at text 0 room at
  bytes-start = record { within = omega arith; puts = puts_none room at }

  module _ {i : ℕ} {room' : List ℕ} {r : ℕ} (b : BytesPut room at text i room' r) where
    pub bytes_on : {room'' : List ℕ} {k : ℕ} → i < length text → Puts room' r (get_or text i 0 ∷ []) room'' k → BytesPut room at text (i + 1) room'' k
    bytes_on h q = record { within = omega (arith, h); puts = rw (add-one, take-suc text i 0 h) (puts_then b.puts q) }

    pub bytes-size : length room' ≡ length room
    bytes-size = b.puts.size

    pub bytes-end : length text ≤ i → Puts room at text room' r
    bytes-end h = rw (take_all i text h) at b.puts

-- ---- the positions of a word, from turn to turn

-- the first i of n are put
pub record PositionsPut (room : List ℕ) (at word n i : ℕ) (room' : List ℕ) (r : ℕ) : Type 0 where
  pub within : i ≤ n
  pub puts : Puts room at (positions word 0 i) room' r

-- one position more
positions-more : (word p i : ℕ) → positions word p (suc i) ≡ positions word p i ++ (48 + bit word (p + i)) ∷ []
positions-more word p zero = let e : p + 0 ≡ p = omega arith in rw e
positions-more word p (suc i) =
    let e : suc p + i ≡ p + suc i = omega arith in
    ap (λ (rest : List ℕ). (48 + bit word p) ∷ rest) (positions-more word (suc p) i ∙ rw e)

module _ {room : List ℕ} {at word n : ℕ} where
  pub positions-start : PositionsPut room at word n 0 room at
  positions-start = record { within = omega arith; puts = puts_none room at }

  module _ {i : ℕ} {room' : List ℕ} {r : ℕ} (b : PositionsPut room at word n i room' r) where
    pub positions-on : {room'' : List ℕ} {k x : ℕ} → i < n → x ≡ 48 + bit word i → Puts room' r (x ∷ []) room'' k
        → PositionsPut room at word n (i + 1) room'' k
    positions-on h e q =
        let z : 0 + i ≡ i = omega arith in
        record { within = omega (arith, h); puts = rw (add-one, positions-more word 0 i, z, ← e) (puts_then b.puts q) }

    pub positions-size : length room' ≡ length room
    positions-size = b.puts.size

    pub positions-end : n ≤ i → Puts room at (positions word 0 n) room' r
    positions-end h = let e : i ≡ n = omega (arith, h, b.within) in subst (λ (m : ℕ). Puts room at (positions word 0 m) room' r) e b.puts

-- ---- lines

-- a line of two fields: its name, a tab, the other field, the line feed
pub line-put : {name text a b c d e : List ℕ} {at r s t u : ℕ} → Puts a at name b r → Puts b r (9 ∷ []) c s → Puts c s text d t → Puts d t (10 ∷ []) e u
    → Puts a at (line name (text ∷ [])) e u
line-put p q r s = puts_then p (puts_then q (puts_then r s))

-- the cover: its word and n, the letter, and first
pub cover-put : (kind : Kind) (n : ℕ) {x at r s t u v : ℕ} {a b c d e f : List ℕ} → Puts a at (99 ∷ 111 ∷ 118 ∷ 101 ∷ 114 ∷ 9 ∷ []) b r
    → Puts b r (decimal n) c s → Puts c s (9 ∷ []) d t → x ≡ letter_of kind → Puts d t (x ∷ []) e u
    → Puts e u (9 ∷ 102 ∷ 105 ∷ 114 ∷ 115 ∷ 116 ∷ 10 ∷ []) f v → Puts a at (cover_line kind n) f v
unfolding cover_line
cover-put kind n p q r l s t = puts_then p (puts_then q (puts_then r (puts_then (rw l at s) t)))

-- a mask that is zero has no line
pub mask-none : (n word : ℕ) {room : List ℕ} {at : ℕ} → word ≡ 0 → Puts room at (mask_lines n word) room at
unfolding mask_lines
mask-none n word {room} {at} e = rw e (puts_none room at)

pub mask-put : (n word : ℕ) {room room' : List ℕ} {at r : ℕ} → (word ≡ 0 → ⊥) → Puts room at (line mask (positions word 0 n ∷ [])) room' r
    → Puts room at (mask_lines n word) room' r
unfolding mask_lines
mask-put n word h p = rw (ne_eqb word 0 h) p

-- the lines of a sheet
pub text-put : (kind : Kind) (n word : ℕ) (rows : List ℕ) {at r s t u : ℕ} {a b c d e : List ℕ} → Puts a at (cover_line kind n) b r
    → Puts b r (mask_lines n word) c s → Puts c s (row_lines n rows) d t → Puts d t (101 ∷ 110 ∷ 100 ∷ 10 ∷ []) e u → Puts a at (sheet_text kind n word rows) e u
unfolding sheet_text
text-put kind n word rows p q r s = puts_then p (puts_then q (puts_then r s))

-- ---- the rows, from turn to turn

-- the lines of the first i are put
pub record RowsPut (room : List ℕ) (at : ℕ) (rows : List ℕ) (n i : ℕ) (room' : List ℕ) (r : ℕ) : Type 0 where
  pub within : i ≤ length rows
  pub puts : Puts room at (row_lines n (take i rows)) room' r

-- one row more
rows_more : (n : ℕ) (rows : List ℕ) (i : ℕ) → i < length rows → row_lines n (take (suc i) rows) ≡ row_lines n (take i rows) ++ row_line n (get_or rows i 0)
rows_more n [] i h = absurd (omega arith)
rows_more n (w ∷ rows) zero h = append-nil (row_line n w)
rows_more n (w ∷ rows) (suc i) h =
    ap (λ (rest : List ℕ). row_line n w ++ rest) (rows_more n rows i (omega arith))
    ∙ sym (append_assoc (row_line n w) (row_lines n (take i rows)) (row_line n (get_or rows i 0)))

module _ {room : List ℕ} {at : ℕ} {rows : List ℕ} {n : ℕ} where
  pub rows_start : RowsPut room at rows n 0 room at
  rows_start = record { within = omega arith; puts = puts_none room at }

  module _ {i : ℕ} {room' : List ℕ} {r : ℕ} (b : RowsPut room at rows n i room' r) where
    pub rows_on : {room'' : List ℕ} {k : ℕ} → i < length rows → Puts room' r (row_line n (get_or rows i 0)) room'' k → RowsPut room at rows n (i + 1) room'' k
    rows_on h q = record { within = omega (arith, h); puts = rw (add-one, rows_more n rows i h) (puts_then b.puts q) }

    pub rows_size : length room' ≡ length room
    rows_size = b.puts.size

    pub rows_end : length rows ≤ i → Puts room at (row_lines n rows) room' r
    rows_end h = rw (take_all i rows h) at b.puts
