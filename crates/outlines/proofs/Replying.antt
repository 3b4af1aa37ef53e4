-- What the calls reply, by the plate of the input.
use Rattle.std.proofs.Common.{Result, Ok, Err}
use mathlib.Core.List.{List}
use mathlib.Core.Path.{◌≡◌, refl, subst, sym}
use native.Mathlib.Omega.{arith}
use Prim.Native.Nat.{ℕ}
use Rattle.listings.specs.Writing.{WritesLine}
use Rattle.outlines.specs.declared.opening.Which.{Which}
use Rattle.outlines.specs.Opening.{Opened, OpenedAs, kind_as, mask_as}
use Rattle.outlines.specs.Outline.{WritesBy, WritesPlateSheet}
use Rattle.outlines.specs.SheetText.{sheet_of}
use Rattle.plates.specs.declared.Prepared.{Prepared}
use Rattle.plates.specs.declared.Refusal.{Refusal}
use Rattle.plates.specs.Prepare.{IsPrepared}
use Rattle.sheets.specs.Sheet.{Reading, reading, refused, says}
use Rattle.trellises.proofs.AcceptedIsPrepared.{accepted-prepared}

module _ {which : Which} {input : List ℕ} {prepared : Prepared} (o : Opened which input prepared) where
  -- the plate of an input that is not refused is prepared
  pub opened-prepared : prepared.verdict ≡ Ok tt → IsPrepared prepared.plate
  opened-prepared e = by (reading input) o.is
    where
      by : (found : Reading) → OpenedAs which found prepared → IsPrepared prepared.plate
      by (refused q) f = let s : ◌≡◌ {A = Result (Unit {0}) Refusal} (Err q) (Ok tt) = cc in let z : ◌≡◌ {A = ℕ} 0 1 = cc in absurd (omega arith)
      by (says sheet) f = accepted-prepared sheet.n (kind_as which sheet.kind) sheet.rows (mask_as which sheet.mask) prepared f e

  module _ {room : List ℕ} where
    -- a refusal changes nothing
    pub sheet-refused : {q : Refusal} → prepared.verdict ≡ Err q → WritesPlateSheet which input room (Err q) room
    sheet-refused {q} e =
        let text = sheet_of prepared.plate in
        record { prepared = prepared; opened = o; is = subst (λ (v : Result (Unit {0}) Refusal). WritesBy v text room (Err q) room) (sym e) (refl, refl) }

    -- else the sheet is written
    pub sheet-given : {r : Result ℕ Refusal} {room' : List ℕ} → prepared.verdict ≡ Ok tt → WritesLine (sheet_of prepared.plate) room r room'
        → WritesPlateSheet which input room r room'
    sheet-given {r} {room'} e w =
        let text = sheet_of prepared.plate in
        record { prepared = prepared; opened = o; is = subst (λ (v : Result (Unit {0}) Refusal). WritesBy v text room r room') (sym e) w }
