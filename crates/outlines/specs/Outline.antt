-- What a verb about a plate replies to an input, and what it leaves in the room.
use Rattle.plates.specs.declared.Refusal.{Refusal}
use Rattle.std.specs.Prelude.{List, ◌≡◌, ℕ, Result, Ok, Err}
use Rattle.listings.specs.Writing.{WritesLine}
use Rattle.outlines.specs.declared.opening.Which.{Which}
use Rattle.outlines.specs.Opening.{Opened}
use Rattle.outlines.specs.SheetText.{sheet_of}
use Rattle.plates.specs.declared.Prepared.{Prepared}

-- by the verdict on the input: its refusal, and the room as it was; or the text at the start of the room, or 11
abbrev pub WritesBy : Result (Unit {0}) Refusal → List ℕ → List ℕ → Result ℕ Refusal → List ℕ → Type 0
WritesBy (Err q) text room r room' = (r ≡ Err q) × (room' ≡ room)
WritesBy (Ok _) text room r room' = WritesLine text room r room'

-- the promise of `write_sheet` and of `write_dual`
pub record WritesPlateSheet (which : Which) (input room : List ℕ) (r : Result ℕ Refusal) (room' : List ℕ) : Type 0 where
  pub prepared : Prepared
  pub opened : Opened which input prepared
  pub is : WritesBy prepared.verdict (sheet_of prepared.plate) room r room'
