-- Determined: two replies with the rooms after them that meet the promise of a call are equal.
use Rattle.std.proofs.Common.{Result, Ok, Err}
use mathlib.Core.List.{List}
use mathlib.Core.Path.{◌≡◌, subst, sym, ◌∙◌}
use Prim.Native.Nat.{ℕ}
use Rattle.listings.proofs.Determined.{Same, determined}
use Rattle.outlines.specs.declared.opening.Which.{Which}
use Rattle.outlines.specs.Opening.{OpenedAs, kind_as, mask_as}
use Rattle.outlines.specs.Outline.{WritesBy, WritesPlateSheet}
use Rattle.outlines.specs.SheetText.{sheet_of}
use Rattle.plates.proofs.PrepareDetermined.{prepare-determined}
use Rattle.plates.specs.declared.Prepared.{Prepared}
use Rattle.plates.specs.declared.Refusal.{Refusal}
use Rattle.sheets.specs.Sheet.{Reading, reading, refused, says}

-- an input has one plate
pub one-opened : (which : Which) (found : Reading) (a b : Prepared) → OpenedAs which found a → OpenedAs which found b → a ≡ b
one-opened which (refused q) a b x y = x ∙ sym y
one-opened which (says sheet) a b x y =
    prepare-determined sheet.n (kind_as which sheet.kind) sheet.rows (mask_as which sheet.mask) a b x y

pub once : {refusal : Refusal} {holds : Type 0} (p q : Refusal) → holds × (p ≡ refusal) → holds × (q ≡ refusal) → p ≡ q
once p q x y = x.1 ∙ sym y.1

pub by-determined : (v : Result (Unit {0}) Refusal) (text room : List ℕ) {r s : Result ℕ Refusal} {a b : List ℕ} → WritesBy v text room r a → WritesBy v text room s b → Same r s a b
by-determined (Err q) text room x y = (x.0 ∙ sym y.0, x.1 ∙ sym y.1)
by-determined (Ok _) text room x y = determined _ (once, tt) text room x y

pub write-sheet-determined : (which : Which) (input room : List ℕ) {r s : Result ℕ Refusal} {a b : List ℕ} → WritesPlateSheet which input room r a
    → WritesPlateSheet which input room s b → Same r s a b
write-sheet-determined which input room {r} {s} {a} {b} x y =
    let e = one-opened which (reading input) x.prepared y.prepared x.opened.is y.opened.is in
    by-determined y.prepared.verdict (sheet_of y.prepared.plate) room
    (subst (λ (p : Prepared). WritesBy p.verdict (sheet_of p.plate) room r a) e x.is) y.is
