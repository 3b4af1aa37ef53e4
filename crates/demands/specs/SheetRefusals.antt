-- Demand 1 for a sheet: the refusals of an input as one list of conditions in the paper's order. 15; form of the cover; 1; the first other bad line; 2; 4.
use Rattle.std.specs.Prelude.{length, List, [], ◌∷◌, ◌⊎◌, ◌≡◌, ◌<◌, ℕ}
use Rattle.plates.specs.Code.{InCode}
use Rattle.plates.specs.declared.Refusal.{Refusal}
use Rattle.plates.specs.declared.Refusal.TheVariants.{InputTooLong}
use Rattle.plates.specs.Prepare.{Wide, bad_length, too_many_rows}
use Rattle.plates.specs.Refusals.{field, number, place}
use Rattle.sheets.specs.Faults.{FirstFault, on_cover}
use Rattle.sheets.specs.Sheet.{contents}
use Rattle.sheets.specs.Text.{lines}

-- What a sheet says (sheets/specs/Sheet: `contents`) has n 0 where the cover is not of its form; then the second condition holds, and the order
-- settles what those behind it say.

-- 15: the input has over 32,768 bytes
abbrev pub input_over : List ℕ → Refusal → Type 0
input_over s q = (32768 < length s) × (q ≡ InputTooLong)

-- a bad line: the refusal has line, number and field of the first fault of the sheet's lines, which is on the lowest line, then has the lowest
-- number, then the lowest field
abbrev pub first_fault : List ℕ → Refusal → Type 0
first_fault s q = FirstFault (contents s).n on_cover (lines s) (place q) (number q) (field q)

-- form of the cover, which is line 1
abbrev pub cover_fault : List ℕ → Refusal → Type 0
cover_fault s q = first_fault s q × (place q ≡ 1)

-- the first other bad line
abbrev pub line_fault : List ℕ → Refusal → Type 0
line_fault s q = first_fault s q × (1 < place q)

-- 4: some s(t) of the plate of the sheet's matrix exceeds 12
abbrev pub sheet_wide : List ℕ → Refusal → Type 0
sheet_wide s = Wide (InCode (contents s).kind (contents s).n (contents s).rows) (contents s).n

-- those that reading the sheet meets
abbrev pub sheet_conditions : List ℕ → List (Refusal → Type 0)
sheet_conditions s = input_over s ∷ cover_fault s ∷ bad_length (contents s).n ∷ line_fault s ∷ too_many_rows (contents s).rows ∷ []

-- all
abbrev pub input_conditions : List ℕ → List (Refusal → Type 0)
input_conditions s = input_over s ∷ cover_fault s ∷ bad_length (contents s).n ∷ line_fault s ∷ too_many_rows (contents s).rows ∷ sheet_wide s ∷ []

-- ---- their numbers

-- a number is among some
abbrev pub Among : ℕ → List ℕ → Type 0
Among i [] = ⊥
Among i (j ∷ js) = (i ≡ j) ⊎ Among i js

-- the conditions, in order, refuse with a number among these
abbrev pub NumberedAmong : List (Refusal → Type 0) → List (List ℕ) → Type 0
NumberedAmong [] [] = Unit {0}
NumberedAmong [] (js ∷ jss) = ⊥
NumberedAmong (c ∷ cs) [] = ⊥
NumberedAmong (c ∷ cs) (js ∷ jss) = ((q : Refusal) → c q → Among (number q) js) × NumberedAmong cs jss

-- a bad line: missing or not ended, first field, number of fields, form of a field, form of a row or mask
abbrev pub line_numbers : List ℕ
line_numbers = 10 ∷ 17 ∷ 18 ∷ 19 ∷ 20 ∷ []
