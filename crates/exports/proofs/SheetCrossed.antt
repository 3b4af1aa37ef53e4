-- How a report that is opened on a sheet crosses: its plate and its order into their cells, a refusal into the cells of the place.
use Rattle.std.proofs.Common.{Ok, Err}
use lib.ListN.{drop, length, set}
use mathlib.Core.List.{◌++◌, List}
use mathlib.Core.Logic.{inr}
use mathlib.Core.Path.{ap, ap₂, sym, ◌∙◌, ◌≡◌}
use Prim.Native.Nat.{ℕ}
use Rattle.exports.specs.Calls.{Crossing, done}
use Rattle.exports.specs.Flat.{flat}
use Rattle.exports.specs.Sheeting.{CallsPlateOfSheet, RefusedIn, SheetCells, SheetShape, order_number, place_put, sheet_as, sheet_cells, sheeted, verdict_of}
use Rattle.plates.specs.declared.Refusal.{Refusal}
use Rattle.reports.specs.declared.Report.{Report}
use Rattle.reports.specs.Steps.{Opens}

module _ (sheet : List ℕ) (lent : SheetCells) (report : Report) (shape : SheetShape (length lent.plate) (length lent.order) (length lent.at))
    (opens : Opens sheet report) where
  -- a code and cells that the report crosses as
  crossed : {out : Crossing SheetCells} → out ≡ sheeted lent report → CallsPlateOfSheet sheet lent out.code out.cells
  crossed e = record { by_shape = inr (shape, record { reply = report; promised = opens; crosses = e }) }

  -- plate and order are in their cells
  pub sheet-accepted : {plate' : List ℕ} {order : ℕ} → verdict_of report.stage ≡ Ok tt → plate' ≡ flat report.plate ++ drop 132 lent.plate
      → order ≡ order_number report.order
      → CallsPlateOfSheet sheet lent done (sheet_cells plate' (set lent.order 0 order) (place_put lent.at 0 0))
  sheet-accepted e laid told =
      crossed
      (ap₂ (λ (p : List ℕ) (o : ℕ). record { code = done; cells = sheet_cells p (set lent.order 0 o) (place_put lent.at 0 0) }) laid told
      ∙ sym (ap (sheet_as lent report.plate report.order) e))

  -- place and field are in their cells
  pub sheet-refused : {q : Refusal} {r : ℕ} {at' : List ℕ} → verdict_of report.stage ≡ Err q → RefusedIn q lent.at r at'
      → CallsPlateOfSheet sheet lent r (sheet_cells lent.plate lent.order at')
  sheet-refused e f =
      crossed
      (ap₂ (λ (x : ℕ) (p : List ℕ). record { code = x; cells = sheet_cells lent.plate lent.order p }) f.number_is f.place_is
      ∙ sym (ap (sheet_as lent report.plate report.order) e))
