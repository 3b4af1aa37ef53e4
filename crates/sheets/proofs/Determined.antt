-- Two replies that meet the promise of a public call are equal, and so is what they leave of the lent places.
use Rattle.std.proofs.Common.{Result, Option}
use Rattle.plates.specs.declared.Refusal.{Refusal}
use Rattle.sheets.specs.declared.SampleLine.{SampleLine}
use Rattle.sheets.specs.declared.Sheet.{Sheet}
use Prim.Native.Nat.{ℕ}
use lib.IntN.{ℤ}
use mathlib.Core.Bool.{Bool}
use mathlib.Core.List.{List}
use mathlib.Core.Path.{◌≡◌, sym, ◌∙◌}
use Rattle.sheets.specs.Blocks.{ReadsBlock}
use Rattle.sheets.specs.Sheet.{ReadsSheet}
use Rattle.sheets.specs.declared.Order.{Order}

-- `read_sheet`: the reply and the table
pub sheet-determined : {s table : List ℕ} {r₁ r₂ : Result Sheet Refusal} {t₁ t₂ : List ℕ} → ReadsSheet s table r₁ t₁ → ReadsSheet s table r₂ t₂ → (r₁ ≡ r₂) × (t₁ ≡ t₂)
sheet-determined a b = (a.reply ∙ sym b.reply, a.rows ∙ sym b.rows)

-- `read_block`: the reply and the room
pub block-determined : {heard : Bool} {s : List ℕ} {at : ℕ} {order : Order} {room : List ℤ} {r₁ r₂ : Option SampleLine} {t₁ t₂ : List ℤ} → ReadsBlock heard s at order room r₁ t₁ → ReadsBlock heard s at order room r₂ t₂
    → (r₁ ≡ r₂) × (t₁ ≡ t₂)
block-determined a b = (a.reply ∙ sym b.reply, a.samples ∙ sym b.samples)
