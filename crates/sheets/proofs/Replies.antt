-- What a caller learns from each reply of `read_sheet` and `read_block`.
use Rattle.std.proofs.Common.{Result, Ok, Err, Option, Some, None}
use Rattle.sheets.specs.declared.SampleLine.{SampleLine}
use Rattle.sheets.specs.Made.{sample_line_of}
use Prim.Native.Nat.{ℕ, ◌≤◌, ◌<◌}
use lib.IntN.{ℤ}
use lib.ListN.{length}
use mathlib.Core.Bool.{Bool}
use mathlib.Core.List.{List, [], ◌∷◌}
use mathlib.Core.Path.{◌≡◌, refl, sym, ◌∙◌, ap}
use native.Mathlib.Omega.{arith}
use Rattle.plates.specs.Refusals.{field, number, place}
use Rattle.plates.specs.declared.Refusal.{Refusal}
use Rattle.plates.specs.declared.Refusal.TheVariants.{Length, TooManyRows, InputTooLong}
use Rattle.sheets.specs.Text.{lines_from}
use Rattle.sheets.specs.Room.{laid}
use Rattle.sheets.specs.Blocks.{BlockFound, block, no_block, blocks_of, block_at, next_line, block_reply, placed, ReadsBlock}
use Rattle.sheets.specs.Sheet.{Contents, refusal_of, Reading, says, refused, reading, sheet_at, start_of, sheet_reply, ReadsSheet}
use Rattle.sheets.specs.declared.Order.{Order}
use Rattle.sheets.specs.declared.Sheet.{Sheet}
use Rattle.sheets.specs.declared.line.Fault.{Fault}
use Rattle.sheets.specs.declared.line.Fault.TheVariants as F
use Rattle.sheets.specs.Lines.{field_of, number_of}
use Rattle.sheets.proofs.BlockPlaces.{counted_in, next_of}
use Rattle.sheets.proofs.Ranges.{InRange, sheet-in-range}
use Rattle.sheets.proofs.Following.{block-ended, block-first, block_none}

-- ---- a sheet

-- a sheet was read: what it says, and where
pub record SheetIs (s table : List ℕ) (sheet : Sheet) (table' : List ℕ) : Type 0 where
  pub said : Contents
  pub is : reading s ≡ says said
  pub numbers : sheet ≡ sheet_at (start_of s said) said
  pub rows : table' ≡ laid said.rows table
  pub range : InRange said

-- the input was refused
pub record SheetNot (s table : List ℕ) (q : Refusal) (table' : List ℕ) : Type 0 where
  pub is : reading s ≡ refused q
  pub rows : table' ≡ table

module _ {s table table' : List ℕ} {r : Result Sheet Refusal} (p : ReadsSheet s table r table') where
  sheet-case : (d : Reading) → reading s ≡ d → (sheet : Sheet) → Ok sheet ≡ sheet_reply s d → SheetIs s table sheet table'
  sheet-case (says c) e sheet g = record { said = c; is = e; numbers = cc; rows = rw e at p.rows; range = sheet-in-range s c e }
  sheet-case (refused q) e sheet g = let z : ◌≡◌ {A = ℕ} 0 1 = cc in absurd (omega arith)

  pub sheet-is : (sheet : Sheet) → r ≡ Ok sheet → SheetIs s table sheet table'
  sheet-is sheet e = sheet-case (reading s) refl sheet (sym e ∙ p.reply)

  not-case : (d : Reading) → reading s ≡ d → (q : Refusal) → Err q ≡ sheet_reply s d → SheetNot s table q table'
  not-case (says c) e q g = let z : ◌≡◌ {A = ℕ} 0 1 = cc in absurd (omega arith)
  not-case (refused o) e q g = let n : o ≡ q = cc in record { is = e ∙ ap refused n; rows = rw e at p.rows }

  pub sheet-not : (q : Refusal) → r ≡ Err q → SheetNot s table q table'
  sheet-not q e = not-case (reading s) refl q (sym e ∙ p.reply)

-- the paper's number, line and field of each refusal of the input
pub number-of-line : (line : ℕ) (fault : Fault)
    → (number (refusal_of line fault) ≡ number_of fault) × (place (refusal_of line fault) ≡ line) × (field (refusal_of line fault) ≡ field_of fault)
number-of-line line F.Missing = (refl, refl, refl)
number-of-line line F.Turn = (refl, refl, refl)
number-of-line line (F.Count at) = (refl, refl, refl)
number-of-line line (F.Value at) = (refl, refl, refl)
number-of-line line (F.Row at) = (refl, refl, refl)

pub number-of-others : (number InputTooLong ≡ 15) × (number Length ≡ 1) × (number TooManyRows ≡ 2)
number-of-others = (refl, refl, refl)

-- ---- a block line

-- a block line was read: its samples as listed, and the next line, from which the other block lines follow
pub record BlockIs (heard : Bool) (s : List ℕ) (at : ℕ) (order : Order) (room : List ℤ) (k next : ℕ) (room' : List ℤ) : Type 0 where
  pub said : List ℤ
  pub is : block_at heard s at ≡ block said
  pub count : k ≡ length said
  pub samples : room' ≡ placed order said room
  pub low : at < next
  pub high : next ≤ length s
  pub after : blocks_of heard (lines_from s at) ≡ said ∷ blocks_of heard (lines_from s next)

-- no block line begins there
pub record BlockNot (heard : Bool) (s : List ℕ) (at : ℕ) (room room' : List ℤ) : Type 0 where
  pub is : block_at heard s at ≡ no_block
  pub samples : room' ≡ room
  pub after : blocks_of heard (lines_from s at) ≡ []

module _ {heard : Bool} {s : List ℕ} {at : ℕ} {order : Order} {room room' : List ℤ} {r : Option SampleLine} (p : ReadsBlock heard s at order room r room') where
  block-case : (b : BlockFound) → block_at heard s at ≡ b → (k next : ℕ) → Some (sample_line_of k next) ≡ block_reply (next_line s at) b → BlockIs heard s at order room k next room'
  block-case (block vs) e k next g =
      let n : next_line s at ≡ next = sym (ap next_of g) in
      let d = rw n at (block-ended heard s at vs e) in
      record { said = vs; is = e; count = ap counted_in g; samples = rw e at p.samples; low = d.low; high = d.high; after = rw n at (block-first heard s at vs e) }
  block-case no_block e k next g = let z : ◌≡◌ {A = ℕ} 0 1 = cc in absurd (omega arith)

  pub block-is : (k next : ℕ) → r ≡ Some (sample_line_of k next) → BlockIs heard s at order room k next room'
  block-is k next e = block-case (block_at heard s at) refl k next (sym e ∙ p.reply)

  none-case : (b : BlockFound) → block_at heard s at ≡ b → None ≡ block_reply (next_line s at) b → BlockNot heard s at room room'
  none-case (block vs) e g = let z : ◌≡◌ {A = ℕ} 0 1 = cc in absurd (omega arith)
  none-case no_block e g = record { is = e; samples = rw e at p.samples; after = block_none heard s at e }

  pub block-not : r ≡ None → BlockNot heard s at room room'
  block-not e = none-case (block_at heard s at) refl (sym e ∙ p.reply)
