-- The mask: a line that may stand right after the cover, the word mask and one field, written and turned like a row.
use Rattle.std.specs.Prelude.{ℕ, List, [], ◌∷◌, Option, Some, None, Result, Ok, Err}
use Rattle.sheets.specs.declared.line.Fault.{Fault}
use Rattle.sheets.specs.Text.{fields}
use Rattle.sheets.specs.Words.{word_of}
use Rattle.sheets.specs.Lines.{row_rest}
use Rattle.sheets.specs.declared.Order.{Order}
use Rattle.sheets.specs.declared.word.Word.{Word}
use Rattle.sheets.specs.declared.word.Word.TheVariants as W

-- a row's word as that of a mask, or the row's fault
abbrev pub mask_is : Result ℕ Fault → Result (Option ℕ) Fault
mask_is (Ok w) = Ok (Some w)
mask_is (Err fault) = Err fault

-- the fields after a word: after mask as after row, and another word makes no mask line
abbrev pub mask_by : ℕ → Order → Word → List (List ℕ) → Result (Option ℕ) Fault
mask_by n order W.Cover fs = Ok None
mask_by n order W.Mask fs = mask_is (row_rest n order fs)
mask_by n order W.Row fs = Ok None
mask_by n order W.Block fs = Ok None
mask_by n order W.Heard fs = Ok None
mask_by n order W.End fs = Ok None
mask_by n order W.Other fs = Ok None

-- a line by its fields: the first decides
abbrev pub mask_of : ℕ → Order → List (List ℕ) → Result (Option ℕ) Fault
mask_of n order [] = Ok None
mask_of n order (w ∷ fs) = mask_by n order (word_of w) fs

-- the mask line at the front of the lines after the cover; what follows the last line feed is no line
abbrev pub mask_front : ℕ → Order → List (List ℕ) → Result (Option ℕ) Fault
mask_front n order [] = Ok None
mask_front n order (l ∷ []) = Ok None
mask_front n order (l ∷ m ∷ ls) = mask_of n order (fields l)

-- the word of the mask: 0 where there is no mask line
abbrev pub mask_in : Result (Option ℕ) Fault → ℕ
mask_in (Ok (Some w)) = w
mask_in (Ok None) = 0
mask_in (Err fault) = 0

-- how many lines the mask takes, be it of its form or not
abbrev pub masks_in : Result (Option ℕ) Fault → ℕ
masks_in (Ok (Some w)) = 1
masks_in (Ok None) = 0
masks_in (Err fault) = 1
