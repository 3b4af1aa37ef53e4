-- How the plate of a sheet crosses the interface: the cells, and the promise of the call.
use Rattle.std.specs.Prelude.{drop, length, set, ◌++◌, List, ◌≡◌, ℕ, ◌≤◌, Result, Ok, Err}
use Rattle.exports.specs.Calls.{Calls, Crossing, done}
use Rattle.exports.specs.Flat.{flat}
use Rattle.plates.specs.declared.Plate.{Plate}
use Rattle.plates.specs.declared.Refusal.{Refusal}
use Rattle.plates.specs.Refusals.{field, number, place}
use Rattle.reports.specs.declared.Report.{Report}
use Rattle.reports.specs.declared.Stage.{Stage}
use Rattle.reports.specs.Steps.{Opens}
use Rattle.sheets.specs.declared.Order.{Order}
use Rattle.sheets.specs.declared.Order.TheVariants.{First, Last}
use Rattle.reports.specs.declared.Stage.TheVariants as S

-- the cells that are lent to the call
pub record SheetCells : Type 0 where
  pub plate : List ℕ
  pub order : List ℕ
  pub at : List ℕ

-- the same, one by one
abbrev pub sheet_cells : List ℕ → List ℕ → List ℕ → SheetCells
sheet_cells plate order at = record { plate = plate; order = order; at = at }

-- 0 is first and 1 is last
abbrev pub order_number : Order → ℕ
order_number First = 0
order_number Last = 1

-- whether a report that is opened on an input refuses it
abbrev pub verdict_of : Stage → Result (Unit {0}) Refusal
verdict_of (S.Refused q) = Err q
verdict_of S.PlateLine = Ok tt
verdict_of S.ProfileLine = Ok tt
verdict_of S.BlockLines = Ok tt
verdict_of S.EndLine = Ok tt
verdict_of S.Done = Ok tt

-- place and field stand in the first two cells
abbrev pub place_put : List ℕ → ℕ → ℕ → List ℕ
place_put at line column = set (set at 0 line) 1 column

-- a refusal crosses by its number, with its place and its field in the first two cells
pub record RefusedIn (refusal : Refusal) (at : List ℕ) (r : ℕ) (at' : List ℕ) : Type 0 where
  pub number_is : r ≡ number refusal
  pub place_is : at' ≡ place_put at (place refusal) (field refusal)

-- the plate's words from the start of their run, the cover's order, place 0 and field 0; or place and field of the refusal alone
abbrev pub sheet_as : SheetCells → Plate → Order → Result (Unit {0}) Refusal → Crossing SheetCells
sheet_as lent plate order (Ok _) = record {
  code = done;
  cells = sheet_cells (flat plate ++ drop 132 lent.plate) (set lent.order 0 (order_number order)) (place_put lent.at 0 0);
}
sheet_as lent plate order (Err q) =
    record { code = number q; cells = sheet_cells lent.plate lent.order (place_put lent.at (place q) (field q)) }

abbrev pub sheeted : SheetCells → Report → Crossing SheetCells
sheeted lent report = sheet_as lent report.plate report.order (verdict_of report.stage)

-- how long the plate's run, the cell of the order and those of the place must be
abbrev pub SheetShape : ℕ → ℕ → ℕ → Type 0
SheetShape plate order at = (132 ≤ plate) × (1 ≤ order) × (2 ≤ at)

-- the plate and the order are those of the report that the sheet's listing begins with, and the refusals are that listing's
abbrev pub CallsPlateOfSheet : List ℕ → SheetCells → ℕ → SheetCells → Type 0
CallsPlateOfSheet sheet lent r lent' =
    Calls (SheetShape (length lent.plate) (length lent.order) (length lent.at)) lent
    (Opens sheet) (sheeted lent) (record { code = r; cells = lent' })
