-- What the readers inside the crate promise one another. The public promises are ReadsSheet and ReadsBlock, and rest on none of this.
use Rattle.sheets.specs.declared.SampleLine.{SampleLine}
use Rattle.sheets.specs.Made.{sample_line_of}
use Rattle.std.specs.Prelude.{ℕ, ◌+◌, ◌-◌, ◌≤◌, ◌<◌, ℤ, length, drop, Bool, List, [], ◌∷◌, ◌≡◌, Option, Some, None, Result, Ok, Err}
use Rattle.plates.specs.declared.Refusal.{Refusal}
use Rattle.sheets.specs.declared.line.Fault.{Fault}
use Rattle.sheets.specs.Text.{line_feed, till, lines, lines_from, begins}
use Rattle.sheets.specs.Room.{laid}
use Rattle.sheets.specs.Blocks.{samples_of, values_of, block_by, block_line, values_after, listed_in, heard_rest, blocks_of, block_at, next_line, block_reply}
use Rattle.sheets.specs.Lines.{rows_of}
use Rattle.sheets.specs.Masks.{mask_front}
use Rattle.sheets.specs.Sheet.{cover_front, cover_in, contents_with, sheet_at}
use Rattle.sheets.specs.Sheet.{refusal_of, cover_bad, length_bad, ending_after, line_verdict, rows_too_many, first_refusal}
use Rattle.sheets.specs.declared.Order.{Order}
use Rattle.sheets.specs.declared.Order.TheVariants.{First, Last}
use Rattle.sheets.specs.declared.Sheet.{Sheet}
use Rattle.sheets.specs.declared.word.Word.{Word}
use Rattle.sheets.specs.declared.cover.Cover.{Cover}
use Rattle.sheets.specs.declared.body.Ending.{Ending}
use Rattle.sheets.specs.declared.body.Run.{Run}

-- ---- bytes and numbers

-- r is the first place from `at` on where b stands, or the length where there is none
pub record Until (b : ℕ) (s : List ℕ) (at r : ℕ) : Type 0 where
  pub is : r ≡ at + till b (drop at s)
  pub low : at ≤ r
  pub high : r ≤ length s

-- a number that was read is below k
abbrev pub Below : ℕ → Option ℕ → Type 0
Below k (Some v) = v < k
Below k None = Unit {0}

-- r is the definition's answer d, and below k
pub record NumberRead (d : Option ℕ) (k : ℕ) (r : Option ℕ) : Type 0 where
  pub is : r ≡ d
  pub below : Below k r

-- ---- block lines

-- r is the definition's answer d and, where that is a number of samples, vs are laid into the room
pub record SamplesRead (d : Result ℕ ℕ) (vs : List ℤ) (room : List ℤ) (r : Result ℕ ℕ) (room' : List ℤ) : Type 0 where
  pub is : r ≡ d
  pub stored : (k : ℕ) → r ≡ Ok k → room' ≡ laid vs room

-- the fields from the first sample on, which is field `lead`
abbrev pub FieldsRead : ℕ → List (List ℕ) → List ℤ → Result ℕ ℕ → List ℤ → Type 0
FieldsRead lead fs room r room' = SamplesRead (samples_of lead 0 fs) (values_of fs) room r room'

-- the fields after heard
abbrev pub HeardRead : List (List ℕ) → List ℤ → Result ℕ ℕ → List ℤ → Type 0
HeardRead fs room r room' = SamplesRead (heard_rest fs) (values_of (drop 1 fs)) room r room'

-- the fields after a word
abbrev pub RestRead : Bool → Word → List (List ℕ) → List ℤ → Result ℕ ℕ → List ℤ → Type 0
RestRead heard word fs room r room' = SamplesRead (block_by heard word fs) (values_after heard fs) room r room'

-- the fields of a whole line
abbrev pub LineRead : Bool → List (List ℕ) → List ℤ → Result ℕ ℕ → List ℤ → Type 0
LineRead heard fs room r room' = SamplesRead (block_line heard fs) (listed_in heard fs) room r room'

-- where the sample of a position is listed among n
abbrev pub listed_at : Order → ℕ → ℕ → ℕ
listed_at First n position = position
listed_at Last n position = n - 1 - position

-- the line at a place is ended, and the next begins at `next`
pub record Ended (s : List ℕ) (at next : ℕ) : Type 0 where
  pub low : at < next
  pub high : next ≤ length s
  pub until : Until line_feed s at (next - 1)

-- r is the reply for the block line at a place
pub record BlockRead (heard : Bool) (s : List ℕ) (at : ℕ) (r : Option SampleLine) : Type 0 where
  pub reply : r ≡ block_reply (next_line s at) (block_at heard s at)
  pub place : (k next : ℕ) → r ≡ Some (sample_line_of k next) → Ended s at next

-- ---- the cover

-- it is read and in its range, and the next line begins at `next`
pub record HeadIs (s : List ℕ) (cover : Cover) (next : ℕ) : Type 0 where
  pub form : cover_front (lines s) ≡ Ok cover
  pub range : length_bad cover.n ≡ Ok tt
  pub most : cover.n ≤ 64
  pub ended : Ended s 0 next

-- or it is refused
pub record HeadRead (s : List ℕ) (r : Result (Cover × ℕ) Refusal) : Type 0 where
  pub is : (cover : Cover) (next : ℕ) → r ≡ Ok (cover, next) → HeadIs s cover next
  pub not : (q : Refusal) → r ≡ Err q
      → first_refusal (cover_bad (cover_front (lines s)) ∷ length_bad (cover_in (cover_front (lines s))).n ∷ []) ≡ Err q

-- ---- the lines after the cover

-- found is what the lines from a place on begin with: so many lines, and the line after them begins at `next`
pub record Passed {A : Type 0} (found : List A) (s : List ℕ) (from : ℕ) (r : Run) : Type 0 where
  pub count : r.count ≡ length found
  pub next : r.next ≡ from + begins (lines_from s from) (length found)
  pub left : lines_from s r.next ≡ drop (length found) (lines_from s from)
  pub low : from + r.count ≤ r.next
  pub high : r.next ≤ length s

-- the rows from a place on, and laid into the table
pub record RowsRead (n : ℕ) (order : Order) (s : List ℕ) (from : ℕ) (table : List ℕ) (r : Run) (table' : List ℕ) : Type 0 where
  pub passed : Passed (rows_of n order (lines_from s from)) s from r
  pub stored : table' ≡ laid (rows_of n order (lines_from s from)) table

-- the blocks from a place on
abbrev pub BlocksRead : Bool → List ℕ → ℕ → Run → Type 0
BlocksRead heard s from r = Passed (blocks_of heard (lines_from s from)) s from r

-- the reply by the verdict, a sheet being read
abbrev pub reply_by : Result (Unit {0}) Refusal → Sheet → Result Sheet Refusal
reply_by (Ok _) sheet = Ok sheet
reply_by (Err q) sheet = Err q

-- the reply by how the lines end after the rows and blocks, the first row, or what stands in its place, being line `line`
abbrev pub closed : ℕ → Sheet → Ending → Result Sheet Refusal
closed line sheet ending =
    reply_by (first_refusal (line_verdict (line + sheet.rows + sheet.blocks) ending ∷ rows_too_many sheet.rows ∷ [])) sheet

-- the reply by the cover, the mask and the lines after them, which begin at `from` with line `line`
abbrev pub lines_reply : ℕ → ℕ → Cover → ℕ → List (List ℕ) → Result Sheet Refusal
lines_reply from line cover mask ls =
    let c = contents_with cover mask ls in
    closed line (sheet_at (from + begins ls (length c.rows)) c) (ending_after c ls)

-- the table by the reply
abbrev pub table_by : Result Sheet Refusal → List ℕ → List ℕ → List ℕ
table_by (Ok sheet) rows table = laid rows table
table_by (Err q) rows table = table

-- r is that reply, and the rows are laid into the table where it is a sheet
pub record LinesRead (from line : ℕ) (cover : Cover) (mask : ℕ) (ls : List (List ℕ)) (table : List ℕ) (r : Result Sheet Refusal) (table' : List ℕ) : Type 0 where
  pub reply : r ≡ lines_reply from line cover mask ls
  pub kept : table' ≡ table_by r (rows_of cover.n cover.order ls) table

-- the same by the line after the cover, which is line 2 and begins at `from`: a mask, or none, or a bad one
abbrev pub BodyBy : Result (Option ℕ) Fault → ℕ → Cover → List (List ℕ) → List ℕ → Result Sheet Refusal → List ℕ → Type 0
BodyBy (Ok (Some w)) from cover ls table r table' = LinesRead (from + begins ls 1) 3 cover w (drop 1 ls) table r table'
BodyBy (Ok None) from cover ls table r table' = LinesRead from 2 cover 0 ls table r table'
BodyBy (Err fault) from cover ls table r table' = (r ≡ Err (refusal_of 2 fault)) × (table' ≡ table)

-- the lines after the cover, which begin at `from`
pub record BodyRead (s : List ℕ) (from : ℕ) (cover : Cover) (table : List ℕ) (r : Result Sheet Refusal) (table' : List ℕ) : Type 0 where
  pub by : BodyBy (mask_front cover.n cover.order (lines_from s from)) from cover (lines_from s from) table r table'
