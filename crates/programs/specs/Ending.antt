-- How a run ends: what was handed over, and the exit status.
use Rattle.std.specs.Prelude.{IfSome, Option, pos, ℤ, Bool, List, [], ◌∷◌, ◌≡◌, ℕ, Ok}
use Rattle.plates.specs.declared.Prepared.{Prepared}
use Rattle.plates.specs.Prepare.{Prepares}
use Rattle.programs.specs.declared.endings.Ending.{Ending}
use Rattle.programs.specs.declared.endings.Ending.TheVariants.{Listed, Refused, Unwritten}
use Rattle.programs.specs.declared.writer.Sent.{Sent}
use Rattle.programs.specs.Input.{Whole}
use Rattle.programs.specs.Printing.{AllLines}
use Rattle.reports.specs.declared.Stage.{Stage}
use Rattle.reports.specs.declared.Stage.TheVariants as S
use Rattle.reports.specs.Report.{Reports, line_of_refusal}
use Rattle.sheets.specs.Sheet.{Contents, reading, says}

-- 0 for a listing, 1 for a refused sheet, 2 where not all was taken
abbrev pub status_of : Ending → ℤ
status_of (Listed sent) = pos 0
status_of (Refused q sent) = pos 1
status_of Unwritten = pos 2

-- the exit status of some ending
pub record IsStatus (r : ℤ) : Type 0 where
  pub ending : Ending
  pub is : r ≡ status_of ending

-- where all of a report was taken, the stage at which it began tells how the run ends
abbrev pub ending_of : Stage → Sent → Ending
ending_of (S.Refused q) sent = Refused q sent
ending_of S.PlateLine sent = Listed sent
ending_of S.ProfileLine sent = Listed sent
ending_of S.BlockLines sent = Listed sent
ending_of S.EndLine sent = Listed sent
ending_of S.Done sent = Listed sent

-- what printing says: all lines of what was read were taken, or not
pub record PrintsAll (read : List ℕ) (r : Option Sent) : Type 0 where
  pub all : IfSome r (λ sent. AllLines read read sent.lines)

-- a sheet that is not refused: it is read, and its matrix is accepted with its mask
pub record Accepts (whole : List ℕ) : Type 0 where
  pub sheet : Contents
  pub reads : reading whole ≡ says sheet
  pub prepared : Prepared
  pub prepares : Prepares sheet.n sheet.kind sheet.rows sheet.mask prepared
  pub accepted : prepared.verdict ≡ Ok tt

-- the lines that were taken of what was read are all lines of the whole input's listing, or its one line where the sheet is refused
abbrev pub EndsAs : List ℕ → List ℕ → Ending → Type 0
EndsAs read whole (Listed sent) = AllLines read whole sent.lines × Accepts whole
EndsAs read whole (Refused q sent) = AllLines read whole sent.lines × (sent.lines ≡ 1) × Reports whole (line_of_refusal q ∷ [])
EndsAs read whole Unwritten = Unit {0}

-- so for every input of which this was read
pub record Ends (ended : Bool) (read : List ℕ) (r : Ending) : Type 0 where
  pub is : (whole : List ℕ) → Whole ended read whole → EndsAs read whole r

-- a run ended with 0 or 1 and so many lines taken
abbrev pub Took : Ending → ℕ → Type 0
Took (Listed sent) count = count ≡ sent.lines
Took (Refused q sent) count = count ≡ sent.lines
Took Unwritten count = ⊥
