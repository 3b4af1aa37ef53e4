-- The plate of an input, of its own code or of the dual.
use Rattle.std.specs.Prelude.{List, ◌≡◌, ℕ}
use Rattle.outlines.specs.declared.opening.Which.{Which}
use Rattle.outlines.specs.declared.opening.Which.TheVariants.{Dual, Own}
use Rattle.plates.specs.declared.Kind.{Kind}
use Rattle.plates.specs.declared.Kind.TheVariants.{G, H}
use Rattle.plates.specs.declared.Prepared.{Prepared}
use Rattle.plates.specs.Prepare.{Prepares}
use Rattle.plates.specs.Replying.{refused_with}
use Rattle.sheets.specs.Sheet.{Reading, reading, refused, says}

-- as what the matrix is prepared: the dual is the code of the same matrix under the other letter
abbrev pub kind_as : Which → Kind → Kind
kind_as Own kind = kind
kind_as Dual G = H
kind_as Dual H = G

-- with which mask: the dual has none
abbrev pub mask_as : Which → ℕ → ℕ
mask_as Own mask = mask
mask_as Dual mask = 0

-- by the reading of the input: its refusal with the zero plate beside it, or what preparing its matrix replies
abbrev pub OpenedAs : Which → Reading → Prepared → Type 0
OpenedAs which (refused q) r = r ≡ refused_with q
OpenedAs which (says sheet) r = Prepares sheet.n (kind_as which sheet.kind) sheet.rows (mask_as which sheet.mask) r

pub record Opened (which : Which) (input : List ℕ) (r : Prepared) : Type 0 where
  pub is : OpenedAs which (reading input) r
