-- What may be wrong with a line, each fault by itself, and which of several is told: the lowest line, then the lowest number, then the lowest field.
-- The reader's definitions (Covers, Lines, Sheet) do not rest on this; that they tell the first fault is proved (proofs/SheetFaults).
use Rattle.std.specs.Prelude.{ℕ, zero, suc, ◌<◌, ◌≤◌, eqb, ltb, length, get_or, Bool, true, false, cond, ◌&&◌, List, [], ◌∷◌, ◌⊎◌, ◌≡◌, Option, Some, None}
use Rattle.plates.specs.declared.Kind.{Kind}
use Rattle.sheets.specs.declared.Order.{Order}
use Rattle.plates.specs.Refusals.{field, number, place}
use Rattle.plates.specs.declared.Refusal.{Refusal}
use Rattle.plates.specs.declared.Refusal.TheVariants.{InputTooLong, Length, TooManyRows}
use Rattle.sheets.specs.Text.{fields, lines}
use Rattle.sheets.specs.Words.{word_of}
use Rattle.sheets.specs.Numbers.{counter_of, is_number, number_of}
use Rattle.sheets.specs.Rows.{bits_only}
use Rattle.sheets.specs.Blocks.{is_sample}
use Rattle.sheets.specs.Numbers.{sample_of}
use Rattle.sheets.specs.Covers.{kind_of, order_of}
use Rattle.sheets.specs.declared.word.Word.{Word}
use Rattle.sheets.specs.declared.word.Word.TheVariants.{Cover, Mask, Row, Block, Heard, End, Other}

-- ---- which word a line may begin with

-- the parts of a sheet: the cover; a mask, which may only come right after the cover; rows, until a block or heard line has come; blocks; heard lines;
-- nothing after end
pub data Part : Type 0 where
  on_cover : Part
  on_mask : Part
  on_rows : Part
  on_blocks : Part
  on_heard : Part
  on_nothing : Part

-- the words that are in their turn
abbrev pub in_turn : Part → Word → Bool
in_turn on_cover Cover = true
in_turn on_cover Mask = false
in_turn on_cover Row = false
in_turn on_cover Block = false
in_turn on_cover Heard = false
in_turn on_cover End = false
in_turn on_cover Other = false
in_turn on_mask Cover = false
in_turn on_mask Mask = true
in_turn on_mask Row = true
in_turn on_mask Block = true
in_turn on_mask Heard = true
in_turn on_mask End = true
in_turn on_mask Other = false
in_turn on_rows Cover = false
in_turn on_rows Mask = false
in_turn on_rows Row = true
in_turn on_rows Block = true
in_turn on_rows Heard = true
in_turn on_rows End = true
in_turn on_rows Other = false
in_turn on_blocks Cover = false
in_turn on_blocks Mask = false
in_turn on_blocks Row = false
in_turn on_blocks Block = true
in_turn on_blocks Heard = false
in_turn on_blocks End = true
in_turn on_blocks Other = false
in_turn on_heard Cover = false
in_turn on_heard Mask = false
in_turn on_heard Row = false
in_turn on_heard Block = false
in_turn on_heard Heard = true
in_turn on_heard End = true
in_turn on_heard Other = false
in_turn on_nothing word = false

-- the part after a line that is in its turn
abbrev pub after : Word → Part
after Cover = on_mask
after Mask = on_rows
after Row = on_rows
after Block = on_blocks
after Heard = on_heard
after End = on_nothing
after Other = on_nothing

-- ---- fields

-- how many fields a line of this word is to have, where it has k: a block may have any number, and a heard line any number from two on
abbrev pub due : Word → ℕ → ℕ
due Cover k = 4
due Mask k = 2
due Row k = 2
due Block k = k
due Heard k = cond (ltb k 2) 2 k
due End k = 1
due Other k = k

-- the first missing where there are fewer, the first extra where there are more
abbrev pub first_off : ℕ → ℕ → ℕ
first_off k d = suc (cond (ltb k d) k d)

-- whether a field was G or H
abbrev pub is_kind : Option Kind → Bool
is_kind (Some kind) = true
is_kind None = false

-- whether it was first or last
abbrev pub is_order : Option Order → Bool
is_order (Some order) = true
is_order None = false

-- whether field `at` of a line of this word, from 1, is of its form, on a sheet of length n
abbrev pub good_field : ℕ → Word → ℕ → List ℕ → Bool
good_field n Cover at f = cond (eqb at 2) (is_number (number_of 3 f)) (cond (eqb at 3) (is_kind (kind_of f)) (cond (eqb at 4) (is_order (order_of f)) true))
good_field n Mask at f = cond (eqb at 2) (eqb (length f) n && bits_only f) true
good_field n Row at f = cond (eqb at 2) (eqb (length f) n && bits_only f) true
good_field n Block at f = cond (eqb at 1) true (is_sample (sample_of f))
good_field n Heard at f = cond (eqb at 1) true (cond (eqb at 2) (is_number (counter_of f)) (is_sample (sample_of f)))
good_field n End at f = true
good_field n Other at f = true

-- the number of a field that is not: 20 on a mask or row, and else 19
abbrev pub form_number : Word → ℕ
form_number Cover = 19
form_number Mask = 20
form_number Row = 20
form_number Block = 19
form_number Heard = 19
form_number End = 19
form_number Other = 19

-- ---- faults

-- a field of a line, from 1
abbrev pub field_at : List (List ℕ) → ℕ → List ℕ
field_at fs zero = []
field_at fs (suc i) = get_or fs i []

-- the word of a line
abbrev pub first_word : List (List ℕ) → Word
first_word fs = word_of (field_at fs 1)

-- what is wrong with an ended line, by its fields. 17: its first is unknown or out of its turn; 18: their number, at the first missing or extra;
-- 19 or 20: the form of one
pub data Wrong (n : ℕ) (part : Part) (fs : List (List ℕ)) (number at : ℕ) : Type 0 where
  out_of_turn : in_turn part (first_word fs) ≡ false → number ≡ 17 → at ≡ 1 → Wrong n part fs number at
  miscounted : (length fs ≡ due (first_word fs) (length fs) → ⊥) → number ≡ 18 → at ≡ first_off (length fs) (due (first_word fs) (length fs))
      → Wrong n part fs number at
  malformed : 1 ≤ at → at ≤ length fs → good_field n (first_word fs) at (field_at fs at) ≡ false → number ≡ form_number (first_word fs)
      → Wrong n part fs number at

-- 10, field 0: a line that is missing or not ended, of which only this text stands; after end nothing is missing
abbrev pub Open : Part → List ℕ → ℕ → ℕ → Type 0
Open on_cover text number at = (number ≡ 10) × (at ≡ 0)
Open on_mask text number at = (number ≡ 10) × (at ≡ 0)
Open on_rows text number at = (number ≡ 10) × (at ≡ 0)
Open on_blocks text number at = (number ≡ 10) × (at ≡ 0)
Open on_heard text number at = (number ≡ 10) × (at ≡ 0)
Open on_nothing [] number at = ⊥
Open on_nothing (x ∷ xs) number at = (number ≡ 10) × (at ≡ 0)

-- what is wrong with the first of some lines: what follows the last line feed is no line
abbrev pub WrongHere : ℕ → Part → List (List ℕ) → ℕ → ℕ → Type 0
WrongHere n part [] number at = Open part [] number at
WrongHere n part (l ∷ []) number at = Open part l number at
WrongHere n part (l ∷ m ∷ ls) number at = Wrong n part (fields l) number at

-- what is wrong with line k of some lines, from 1; the words of the lines before it say which part it stands in
abbrev pub WrongAt : ℕ → Part → List (List ℕ) → ℕ → ℕ → ℕ → Type 0
WrongAt n part ls zero number at = ⊥
WrongAt n part ls (suc zero) number at = WrongHere n part ls number at
WrongAt n part [] (suc (suc k)) number at = ⊥
WrongAt n part (l ∷ ls) (suc (suc k)) number at = WrongAt n (after (first_word (fields l))) ls (suc k) number at

-- ---- which is told

-- one number and field comes before another, or is the same
abbrev pub Before : ℕ → ℕ → ℕ → ℕ → Type 0
Before number at number' at' = (number < number') ⊎ ((number ≡ number') × (at ≤ at'))

-- and with their lines
abbrev pub BeforeAt : ℕ → ℕ → ℕ → ℕ → ℕ → ℕ → Type 0
BeforeAt line number at line' number' at' = (line < line') ⊎ ((line ≡ line') × Before number at number' at')

-- the first fault of some lines: the lowest line, then the lowest number, then the lowest field
pub record FirstFault (n : ℕ) (part : Part) (ls : List (List ℕ)) (line number at : ℕ) : Type 0 where
  pub is : WrongAt n part ls line number at
  pub first : (line' number' at' : ℕ) → WrongAt n part ls line' number' at' → BeforeAt line number at line' number' at'

-- why an input of length n is refused: it is too long; or it has a fault, and the first is told; or n is out of its range, the cover having no
-- fault; or it has too many rows, no line having a fault
pub data RefusedFor (s : List ℕ) (n : ℕ) (q : Refusal) : Type 0 where
  too_long : q ≡ InputTooLong → RefusedFor s n q
  fault : FirstFault n on_cover (lines s) (place q) (number q) (field q) → RefusedFor s n q
  bad_length : q ≡ Length → ((number at : ℕ) → WrongAt n on_cover (lines s) 1 number at → ⊥) → RefusedFor s n q
  many_rows : q ≡ TooManyRows → ((line number at : ℕ) → WrongAt n on_cover (lines s) line number at → ⊥) → RefusedFor s n q
