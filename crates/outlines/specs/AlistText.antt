-- Parity checks as alist text: what the verbs `alist` and `from-alist` reply to an input, and what they leave in the room.
use Rattle.std.specs.Prelude.{ltb, length, cond, List, ◌↔◌, ◌≡◌, ℕ, ◌≤◌, Result, Ok, Err}
use Rattle.alists.specs.Calls.{WritesAlist, no_rows}
use Rattle.alists.specs.Reading as A
use Rattle.alists.specs.Text.{alist_text}
use Rattle.listings.specs.Writing.{WritesLine}
use Rattle.outlines.specs.declared.opening.Which.TheVariants.{Dual}
use Rattle.outlines.specs.Opening.{kind_as}
use Rattle.outlines.specs.SheetText.{sheet_text}
use Rattle.outlines.specs.Words.{WordOf}
use Rattle.plates.specs.Code.{InCode}
use Rattle.plates.specs.declared.Kind.{Kind}
use Rattle.plates.specs.declared.Kind.TheVariants.{G, H}
use Rattle.plates.specs.declared.Prepared.{Prepared}
use Rattle.plates.specs.declared.Refusal.{Refusal}
use Rattle.plates.specs.declared.Refusal.TheVariants.{AlistFault, InputTooLong}
use Rattle.plates.specs.Prepare.{Prepares, rows_of}
use Rattle.sheets.specs.Sheet.{Contents, Reading, reading, refused, says}

-- ---- alist: a sheet as alist text

-- the parity checks of a matrix: its rows as they are where they are checks, else the rows of the dual's plate
abbrev pub checks_of : Kind → List ℕ → List ℕ → List ℕ
checks_of H rows dual = rows
checks_of G rows dual = dual

-- by the verdict on a matrix: its refusal, and the room as it was; or the checks as alist text, refused with 16 at place 0 where there are none, then 11
abbrev pub WritesChecksBy : Result (Unit {0}) Refusal → ℕ → List ℕ → List ℕ → Result ℕ Refusal → List ℕ → Type 0
WritesChecksBy (Err q) n checks room r room' = (r ≡ Err q) × (room' ≡ room)
WritesChecksBy (Ok _) n checks room r room' = WritesAlist n checks room r room'

-- what is written of a matrix. Its dual, the same rows under the other letter, is prepared without a mask, and refused as the sheet itself is, with the same
-- number and place (proofs/RefusedAlike)
pub record WritesChecks (n : ℕ) (kind : Kind) (rows room : List ℕ) (r : Result ℕ Refusal) (room' : List ℕ) : Type 0 where
  pub dual : Prepared
  pub prepares : Prepares n (kind_as Dual kind) rows 0 dual
  pub is : WritesChecksBy dual.verdict n (checks_of kind rows (rows_of dual.plate)) room r room'

-- by the reading of the input: its refusal, and the room as it was; or what is written of its sheet
abbrev pub WritesAlistAs : Reading → List ℕ → Result ℕ Refusal → List ℕ → Type 0
WritesAlistAs (refused q) room r room' = (r ≡ Err q) × (room' ≡ room)
WritesAlistAs (says c) room r room' = WritesChecks c.n c.kind c.rows room r room'

-- the promise of `write_alist`
pub record WritesAlistOf (input room : List ℕ) (r : Result ℕ Refusal) (room' : List ℕ) : Type 0 where
  pub is : WritesAlistAs (reading input) room r room'

-- the checks of a sheet, by what preparing its dual replies
abbrev pub checks_in : Contents → Prepared → List ℕ
checks_in c dual = checks_of c.kind c.rows (rows_of dual.plate)

-- the text that it writes for an input that is not refused, where there is room
pub record PrintsAlist (input text : List ℕ) : Type 0 where
  pub sheet : Contents
  pub reads : reading input ≡ says sheet
  pub dual : Prepared
  pub prepares : Prepares sheet.n (kind_as Dual sheet.kind) sheet.rows 0 dual
  pub accepted : dual.verdict ≡ Ok tt
  pub some : 1 ≤ length (checks_in sheet dual)
  pub is : text ≡ alist_text sheet.n (checks_in sheet dual)

-- why it writes none though there is room, by the verdict on the matrix: its refusal; or there are no checks
abbrev pub LacksChecksBy : Result (Unit {0}) Refusal → List ℕ → Refusal → Type 0
LacksChecksBy (Err p) checks q = q ≡ p
LacksChecksBy (Ok _) checks q = no_rows checks q

-- of a sheet that was read
pub record LacksChecks (c : Contents) (q : Refusal) : Type 0 where
  pub dual : Prepared
  pub prepares : Prepares c.n (kind_as Dual c.kind) c.rows 0 dual
  pub is : LacksChecksBy dual.verdict (checks_in c dual) q

-- by the reading of the input: its refusal; or that of its sheet
abbrev pub LacksAlistAs : Reading → Refusal → Type 0
LacksAlistAs (refused p) q = q ≡ p
LacksAlistAs (says c) q = LacksChecks c q

-- q is the refusal of each input that has no alist text
pub record LacksAlist (input : List ℕ) (q : Refusal) : Type 0 where
  pub is : LacksAlistAs (reading input) q

-- ---- from-alist: alist text as a sheet

-- a matrix by its number of columns and its rows, or why an input is refused
pub data Given : Type 0 where
  given : ℕ → List ℕ → Given
  not_given : Refusal → Given

-- 16, with the first line that is faulty, missing or extra
abbrev pub given_by : A.Reading → Given
given_by (A.matrix n rows) = given n rows
given_by (A.fault_in l) = not_given (AlistFault l)

-- 15 first: an input over 32,768 bytes, as for a sheet
unfoldable pub matrix_in : List ℕ → Given
matrix_in input = cond (ltb 32768 (length input)) (not_given InputTooLong) (given_by (A.reading input))

-- the sheet of a matrix of parity checks: its rows under H, in their order and without a mask
abbrev pub checks_sheet : ℕ → List ℕ → List ℕ
checks_sheet n rows = sheet_text H n 0 rows

-- by the matrix: the refusal, and the room as it was; or its sheet, or 11
abbrev pub WritesGiven : Given → List ℕ → Result ℕ Refusal → List ℕ → Type 0
WritesGiven (not_given q) room r room' = (r ≡ Err q) × (room' ≡ room)
WritesGiven (given n rows) room r room' = WritesLine (checks_sheet n rows) room r room'

-- the promise of `write_from_alist`
pub record WritesFromAlist (input room : List ℕ) (r : Result ℕ Refusal) (room' : List ℕ) : Type 0 where
  pub is : WritesGiven (matrix_in input) room r room'

-- the text that it writes for an input that is not refused, where there is room
pub record PrintsFromAlist (input text : List ℕ) : Type 0 where
  pub n : ℕ
  pub rows : List ℕ
  pub reads : matrix_in input ≡ given n rows
  pub is : text ≡ checks_sheet n rows

-- ---- the one after the other

-- a sheet whose words are the codewords of another's matrix, of the same length: the other's mask is passed over
abbrev pub HasCodeOf : Contents → Contents → Type 0
HasCodeOf c d = (c.n ≡ d.n) × ((w : ℕ) → WordOf d w ↔ InCode c.kind c.n c.rows w)

-- what is printed for an alist text is read as a sheet with the code of the sheet c
pub record GivesBack (c : Contents) (text : List ℕ) : Type 0 where
  pub printed : List ℕ
  pub prints : PrintsFromAlist text printed
  pub sheet : Contents
  pub reads : reading printed ≡ says sheet
  pub same : HasCodeOf c sheet
