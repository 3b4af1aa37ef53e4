-- Theorems: 8,192 bytes are enough for the sheet of every plate, and 32,768 for the alist text of every matrix of at most 64 columns and rows.
use lib.ListN.{length}
use mathlib.Core.List.{List}
use native.Mathlib.Omega.{arith}
use Prim.Native.Nat.{ℕ, ◌≤◌}
use Rattle.alists.proofs.Bounds.{columns-length, text-parts, text-short}
use Rattle.alists.specs.Lists.{columns}
use Rattle.alists.specs.Text.{alist_text}
use Rattle.decoding.proofs.MaskedWords.{rest_of}
use Rattle.outlines.proofs.Fitting.{plate-short, rows_few, sheet-length}
use Rattle.outlines.specs.SheetText.{sheet_of}
use Rattle.plates.specs.declared.Kind.TheVariants.{G}
use Rattle.plates.specs.declared.Plate.{Plate}
use Rattle.plates.specs.Prepare.{IsPrepared, rows_of}

pub plate-sheet-length : (plate : Plate) → IsPrepared plate → length (sheet_of plate) ≤ 8192
plate-sheet-length plate p = sheet-length G plate.n (rest_of plate) (rows_of plate) (plate-short p) (rows_few p)

pub alist-length : (n : ℕ) (rows : List ℕ) → n ≤ 64 → length rows ≤ 64 → length (alist_text n rows) ≤ 32768
alist-length n rows h k =
    let l = columns-length rows 0 n in
    let t = text-short (columns n rows) rows (omega (arith, l, h)) k in
    rw (text-parts (columns n rows) rows) (omega (arith, t))
