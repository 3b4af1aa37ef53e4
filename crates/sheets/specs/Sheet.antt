-- A whole sheet. In order: one cover line, a mask line or none, any number of row lines, any number of block lines or any number of heard lines, end,
-- nothing after.
use Rattle.std.specs.Prelude.{ℕ, suc, ◌+◌, eqb, ltb, ℤ, length, drop, Bool, cond, List, [], ◌∷◌, ◌≡◌, Option, Some, None, Result, Ok, Err}
use Rattle.plates.specs.declared.Kind.{Kind}
use Rattle.plates.specs.declared.Kind.TheVariants.{G}
use Rattle.plates.specs.declared.Refusal.{Refusal}
use Rattle.plates.specs.declared.Refusal.TheVariants.{Length, TooManyRows, SheetLine, InputTooLong, FirstField, FieldCount, FieldValue, RowField}
use Rattle.sheets.specs.Text.{lines, fields, begins}
use Rattle.sheets.specs.Room.{laid}
use Rattle.sheets.specs.Turning.{by_position}
use Rattle.sheets.specs.Blocks.{blocks_of, counters_of, heard_front}
use Rattle.sheets.specs.Covers.{cover_of}
use Rattle.sheets.specs.Lines.{came_after, rows_of, ending_of}
use Rattle.sheets.specs.Masks.{mask_front, mask_in, masks_in}
use Rattle.sheets.specs.declared.Order.{Order}
use Rattle.sheets.specs.declared.Order.TheVariants.{First}
use Rattle.sheets.specs.declared.Sheet.{Sheet}
use Rattle.sheets.specs.declared.line.Fault.{Fault}
use Rattle.sheets.specs.declared.line.Fault.TheVariants as F
use Rattle.sheets.specs.declared.cover.Cover.{Cover}
use Rattle.sheets.specs.declared.body.Ending.{Ending}
use Rattle.sheets.specs.declared.body.Ending.TheVariants.{Fine, NoEnd, After}

-- ---- what a sheet says

-- its cover, its mask, which is 0 where it has no mask line, the words of its rows, whether its lines after these are heard lines, the samples of
-- each of its block or heard lines in order of position, and the counter of each, which is 0 on a block line
pub record Contents : Type 0 where
  pub n : ℕ
  pub kind : Kind
  pub order : Order
  pub mask : ℕ
  pub rows : List ℕ
  pub heard : Bool
  pub blocks : List (List ℤ)
  pub counters : List ℕ

-- the cover is the first line; what follows the last line feed is no line
abbrev pub cover_front : List (List ℕ) → Result Cover Fault
cover_front [] = Err F.Missing
cover_front (l ∷ []) = Err F.Missing
cover_front (l ∷ m ∷ ls) = cover_of (fields l)

-- what it says, where it is of its form
abbrev pub cover_in : Result Cover Fault → Cover
cover_in (Ok cover) = cover
cover_in (Err fault) = record { n = 0; kind = G; order = First }

-- with this mask, the rows at the front of the lines after the cover and the mask, and the blocks, or the heard lines where the first is one, at the
-- front of those after the rows
abbrev pub contents_with : Cover → ℕ → List (List ℕ) → Contents
contents_with cover mask ls =
    let rows = rows_of cover.n cover.order ls in
    let left = drop (length rows) ls in
    let found = blocks_of (heard_front left) left in
    record {
      n = cover.n;
      kind = cover.kind;
      order = cover.order;
      mask = mask;
      rows = rows;
      heard = heard_front left;
      blocks = by_position cover.order found;
      counters = counters_of (length found) left;
    }

-- the mask at the front of the lines after the cover, where there is one, and what the lines after it say
abbrev pub contents_of : Cover → List (List ℕ) → Contents
contents_of cover ls =
    let found = mask_front cover.n cover.order ls in
    contents_with cover (mask_in found) (drop (masks_in found) ls)

-- what the lines of a text say
unfoldable pub contents : List ℕ → Contents
contents s = contents_of (cover_in (cover_front (lines s))) (drop 1 (lines s))

-- ---- the refusals of the input

-- a line that is not of its form, by its fault: 10 where it is missing or not ended; 17: its first field is unknown or out of its turn;
-- 18: wrong number of fields, at the first missing or extra; 19: bad number, letter or order; 20: row or mask of wrong length or character
abbrev pub refusal_of : ℕ → Fault → Refusal
refusal_of line F.Missing = SheetLine line
refusal_of line F.Turn = FirstField line
refusal_of line (F.Count field) = FieldCount line field
refusal_of line (F.Value field) = FieldValue line field
refusal_of line (F.Row field) = RowField line field

-- 15: input over 32,768 bytes
abbrev pub input_too_long : List ℕ → Result (Unit {0}) Refusal
input_too_long s = cond (ltb 32768 (length s)) (Err InputTooLong) (Ok tt)

-- 10, 17 to 20: form of the cover, which is line 1
abbrev pub cover_bad : Result Cover Fault → Result (Unit {0}) Refusal
cover_bad (Ok cover) = Ok tt
cover_bad (Err fault) = Err (refusal_of 1 fault)

-- 1: n is 0 or over 64
abbrev pub length_bad : ℕ → Result (Unit {0}) Refusal
length_bad n = cond (eqb n 0) (Err Length) (cond (ltb 64 n) (Err Length) (Ok tt))

-- how the lines end that stand after the rows and blocks; a row there is late where a block has come, and a heard line, or a block after heard lines
abbrev pub ending_after : Contents → List (List ℕ) → Ending
ending_after c ls =
    ending_of c.n c.order (came_after c.heard (length c.blocks)) (drop (length c.blocks) (drop (length c.rows) ls))

-- the bad line is the one that is to be end, or the one after it
abbrev pub line_verdict : ℕ → Ending → Result (Unit {0}) Refusal
line_verdict line Fine = Ok tt
line_verdict line (NoEnd fault) = Err (refusal_of line fault)
line_verdict line (After fault) = Err (refusal_of (line + 1) fault)

-- the first bad one of the lines after the cover and the mask, which begin with line `line`: they are good as far as rows and blocks go
abbrev pub body_bad : ℕ → Contents → List (List ℕ) → Result (Unit {0}) Refusal
body_bad line c ls = line_verdict (line + length c.rows + length c.blocks) (ending_after c ls)

-- the first bad one of the lines after the cover: the mask is line 2, where there is one
abbrev pub bad_by : Result (Option ℕ) Fault → Contents → List (List ℕ) → Result (Unit {0}) Refusal
bad_by (Ok (Some w)) c ls = body_bad 3 c (drop 1 ls)
bad_by (Ok None) c ls = body_bad 2 c ls
bad_by (Err fault) c ls = Err (refusal_of 2 fault)

-- 10, 17 to 20: the first other bad line. The cover is line 1
abbrev pub line_bad : Contents → List (List ℕ) → Result (Unit {0}) Refusal
line_bad c ls = bad_by (mask_front c.n c.order ls) c ls

-- 2: more than 64 rows
abbrev pub rows_too_many : ℕ → Result (Unit {0}) Refusal
rows_too_many k = cond (ltb 64 k) (Err TooManyRows) (Ok tt)

-- in their order: 15; form of the cover, 10 or 17 to 20; 1; the first other bad line, 10 or 17 to 20; then 2
abbrev pub refusals_of : List ℕ → Result Cover Fault → Contents → List (List ℕ) → List (Result (Unit {0}) Refusal)
refusals_of s cover c ls = input_too_long s ∷ cover_bad cover ∷ length_bad c.n ∷ line_bad c ls ∷ rows_too_many (length c.rows) ∷ []

-- the first of some verdicts that refuses
abbrev pub first_refusal : List (Result (Unit {0}) Refusal) → Result (Unit {0}) Refusal
first_refusal [] = Ok tt
first_refusal (Ok tt ∷ vs) = first_refusal vs
first_refusal (Err q ∷ vs) = Err q

-- whether the input is refused
unfoldable pub verdict : List ℕ → Result (Unit {0}) Refusal
verdict s = first_refusal (refusals_of s (cover_front (lines s)) (contents s) (drop 1 (lines s)))

-- ---- the reading of a sheet

-- what a sheet says, or why the input is refused
pub data Reading : Type 0 where
  says : Contents → Reading
  refused : Refusal → Reading

-- by the verdict
abbrev pub reading_by : Result (Unit {0}) Refusal → Contents → Reading
reading_by (Ok _) c = says c
reading_by (Err q) c = refused q

-- the reading of each input
abbrev pub reading : List ℕ → Reading
reading s = reading_by (verdict s) (contents s)

-- ---- the reply

-- the reply for what a sheet says, its block or heard lines beginning at `start`
abbrev pub sheet_at : ℕ → Contents → Sheet
sheet_at start c = record {
  n = c.n;
  kind = c.kind;
  order = c.order;
  mask = c.mask;
  rows = length c.rows;
  start = start;
  heard = c.heard;
  blocks = length c.blocks;
}

-- how many mask lines the sheet has: one or none
abbrev pub masks_of : List ℕ → Contents → ℕ
masks_of s c = masks_in (mask_front c.n c.order (drop 1 (lines s)))

-- where its block or heard lines begin: at the line after the cover, the mask and the rows, which is the first of them, or end where there is none
abbrev pub start_of : List ℕ → Contents → ℕ
start_of s c = begins (lines s) (suc (masks_of s c + length c.rows))

-- the reply for a reading
abbrev pub sheet_reply : List ℕ → Reading → Result Sheet Refusal
sheet_reply s (says c) = Ok (sheet_at (start_of s c) c)
sheet_reply s (refused q) = Err q

-- the table after it
abbrev pub table_after : List ℕ → Reading → List ℕ
table_after table (says c) = laid c.rows table
table_after table (refused q) = table

-- What reading a sheet replies: its numbers and its start, with the rows laid into the table; or the refusal, and then the table stays as it was
pub record ReadsSheet (s table : List ℕ) (r : Result Sheet Refusal) (table' : List ℕ) : Type 0 where
  pub reply : r ≡ sheet_reply s (reading s)
  pub rows : table' ≡ table_after table (reading s)
