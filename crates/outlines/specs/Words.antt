-- The words of a sheet, and what is printed for an input that is not refused.
use Rattle.std.specs.Prelude.{List, ◌↔◌, ◌≡◌, ◌<◌, ◌^◌, ℕ, Ok}
use Rattle.outlines.specs.declared.opening.Which.{Which}
use Rattle.outlines.specs.Opening.{Opened, kind_as, mask_as}
use Rattle.outlines.specs.SheetText.{sheet_of}
use Rattle.plates.specs.Code.{InCode, Masked}
use Rattle.plates.specs.declared.Prepared.{Prepared}
use Rattle.sheets.specs.Sheet.{Contents}
use Rattle.words.specs.Parity.{parity}

-- the words of a sheet: codewords of its matrix plus its mask
abbrev pub WordOf : Contents → ℕ → Type 0
WordOf c = Masked (InCode c.kind c.n c.rows) c.mask

-- the same length, and the same words
abbrev pub SameWords : Contents → Contents → Type 0
SameWords c d = (c.n ≡ d.n) × ((w : ℕ) → WordOf c w ↔ WordOf d w)

-- the sheet whose plate is printed: the input's own, or one of the dual
abbrev pub as_sheet : Which → Contents → Contents
as_sheet which c = record {
  n = c.n;
  kind = kind_as which c.kind;
  order = c.order;
  mask = mask_as which c.mask;
  rows = c.rows;
  heard = c.heard;
  blocks = c.blocks;
  counters = c.counters;
}

-- the words of the dual: those of n positions that are even with every codeword of the matrix
abbrev pub InDual : Contents → ℕ → Type 0
InDual c w = (w < 2 ^ c.n) × ((v : ℕ) → InCode c.kind c.n c.rows v → parity v w ≡ 0)

-- the text that `write_sheet` or `write_dual` writes for an input that is not refused, where there is room
pub record PrintsSheet (which : Which) (input text : List ℕ) : Type 0 where
  pub prepared : Prepared
  pub opened : Opened which input prepared
  pub accepted : prepared.verdict ≡ Ok tt
  pub is : text ≡ sheet_of prepared.plate
