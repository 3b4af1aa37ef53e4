-- A line after the cover, by its fields: the first decides among the six words. The mask line, which comes right after the cover, is in specs/Masks.
-- A fault names the field, from 1; of several in one line it is the one of the lowest number, and of these of the lowest field.
use Rattle.std.specs.Prelude.{ℕ, zero, suc, drop, Bool, true, false, cond, List, [], ◌∷◌, Option, Result, Ok, Err, ok_or}
use Rattle.sheets.specs.Text.{fields}
use Rattle.sheets.specs.Words.{word_of}
use Rattle.sheets.specs.Rows.{row_of}
use Rattle.sheets.specs.Blocks.{heard_rest, samples_of}
use Rattle.sheets.specs.declared.Order.{Order}
use Rattle.sheets.specs.declared.word.Word.{Word}
use Rattle.sheets.specs.declared.word.Word.TheVariants as W
use Rattle.sheets.specs.declared.line.Came.{Came}
use Rattle.sheets.specs.declared.line.Came.TheVariants.{Nothing, Blocks, Heards}
use Rattle.sheets.specs.declared.line.Fault.{Fault}
use Rattle.sheets.specs.declared.line.Fault.TheVariants as F
use Rattle.sheets.specs.declared.line.Line.{Line}
use Rattle.sheets.specs.declared.line.Line.TheVariants as L
use Rattle.sheets.specs.declared.body.Ending.{Ending}
use Rattle.sheets.specs.declared.body.Ending.TheVariants.{Fine, NoEnd, After}

-- the number of a fault
abbrev pub number_of : Fault → ℕ
number_of F.Missing = 10
number_of F.Turn = 17
number_of (F.Count at) = 18
number_of (F.Value at) = 19
number_of (F.Row at) = 20

-- its field: none for a line that is missing or not ended
abbrev pub field_of : Fault → ℕ
field_of F.Missing = 0
field_of F.Turn = 1
field_of (F.Count at) = at
field_of (F.Value at) = at
field_of (F.Row at) = at

-- the field after row or mask has a word
abbrev pub row_is : Option ℕ → Result ℕ Fault
row_is row = ok_or row (F.Row 2)

-- exactly one field after row or mask
abbrev pub row_rest : ℕ → Order → List (List ℕ) → Result ℕ Fault
row_rest n order [] = Err (F.Count 2)
row_rest n order (f ∷ []) = row_is (row_of n order f)
row_rest n order (f ∷ g ∷ fs) = Err (F.Count 3)

-- that word after row makes the line
abbrev pub row_made : Result ℕ Fault → Result Line Fault
row_made (Ok w) = Ok (L.Row w)
row_made (Err fault) = Err fault

-- the samples after block make the line
abbrev pub block_is : Result ℕ ℕ → Result Line Fault
block_is (Ok k) = Ok L.Block
block_is (Err f) = Err (F.Value f)

-- any number of samples after block
abbrev pub block_rest : List (List ℕ) → Result Line Fault
block_rest fs = block_is (samples_of 2 0 fs)

-- after heard: a counter, and any number of samples
abbrev pub heard_fields : List (List ℕ) → Result Line Fault
heard_fields [] = Err (F.Count 2)
heard_fields (f ∷ fs) = block_is (heard_rest (f ∷ fs))

-- nothing after end
abbrev pub end_rest : List (List ℕ) → Result Line Fault
end_rest [] = Ok L.End
end_rest (f ∷ fs) = Err (F.Count 2)

-- where a block or heard line has come, a row is out of its turn
abbrev pub late_row : Came → Bool
late_row Nothing = false
late_row Blocks = true
late_row Heards = true

-- where a heard line has come, a block
abbrev pub late_block : Came → Bool
late_block Nothing = false
late_block Blocks = false
late_block Heards = true

-- where a block has come, a heard line
abbrev pub late_heard : Came → Bool
late_heard Nothing = false
late_heard Blocks = true
late_heard Heards = false

-- by what has come before the line; a second cover is always out of its turn, and so is a second mask or one later in the sheet
abbrev pub line_by : ℕ → Order → Came → Word → List (List ℕ) → Result Line Fault
line_by n order came W.Cover fs = Err F.Turn
line_by n order came W.Mask fs = Err F.Turn
line_by n order came W.Row fs = cond (late_row came) (Err F.Turn) (row_made (row_rest n order fs))
line_by n order came W.Block fs = cond (late_block came) (Err F.Turn) (block_rest fs)
line_by n order came W.Heard fs = cond (late_heard came) (Err F.Turn) (heard_fields fs)
line_by n order came W.End fs = end_rest fs
line_by n order came W.Other fs = Err F.Turn

-- what has come after so many block lines, or heard lines
abbrev pub came_after : Bool → ℕ → Came
came_after heard zero = Nothing
came_after false (suc k) = Blocks
came_after true (suc k) = Heards

-- a line by its fields
abbrev pub line_of : ℕ → Order → Came → List (List ℕ) → Result Line Fault
line_of n order came [] = Err F.Turn
line_of n order came (w ∷ fs) = line_by n order came (word_of w) fs

-- the line at the front of some lines: what follows the last line feed is no line, so that the line is missing or not ended
abbrev pub front : ℕ → Order → Came → List (List ℕ) → Result Line Fault
front n order came [] = Err F.Missing
front n order came (l ∷ []) = Err F.Missing
front n order came (l ∷ m ∷ ls) = line_of n order came (fields l)

-- one row more, or no more
abbrev pub row_then : Result Line Fault → List ℕ → List ℕ
row_then (Ok (L.Row w)) ws = w ∷ ws
row_then (Ok L.Block) ws = []
row_then (Ok L.End) ws = []
row_then (Err f) ws = []

-- the words of the row lines at the front of some lines
abbrev pub rows_of : ℕ → Order → List (List ℕ) → List ℕ
rows_of n order [] = []
rows_of n order (l ∷ ls) = row_then (front n order Nothing (l ∷ ls)) (rows_of n order ls)

-- after end: nothing, so that what follows the last line feed is empty
abbrev pub after_end : List (List ℕ) → Ending
after_end [] = After F.Missing
after_end ([] ∷ []) = Fine
after_end ((x ∷ xs) ∷ []) = After F.Missing
after_end (l ∷ m ∷ ls) = After F.Turn

-- another line than end: a row, block or heard line here is out of its turn
abbrev pub end_by : Result Line Fault → List (List ℕ) → Ending
end_by (Ok (L.Row w)) ls = NoEnd F.Turn
end_by (Ok L.Block) ls = NoEnd F.Turn
end_by (Ok L.End) ls = after_end ls
end_by (Err f) ls = NoEnd f

-- how lines end that are to be end and nothing after
abbrev pub ending_of : ℕ → Order → Came → List (List ℕ) → Ending
ending_of n order came ls = end_by (front n order came ls) (drop 1 ls)
