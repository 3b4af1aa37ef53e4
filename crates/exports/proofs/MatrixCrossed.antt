-- How the replies of the two alist calls cross: a text's length or a matrix into their cells, a refusal into the cell of the place.
use Rattle.std.proofs.Common.{Result, Ok, Err}
use Rattle.alists.specs.Made.{matrix_of}
use Rattle.alists.specs.declared.Matrix.{Matrix}
use lib.ListN.{drop, length, length-append, length-replicate, replicate, set}
use mathlib.Core.List.{◌++◌, List}
use mathlib.Core.Logic.{inr}
use mathlib.Core.Path.{ap, ap₂, refl, sym, ◌∙◌, ◌≡◌}
use native.Mathlib.Omega.{arith}
use Prim.Native.Nat.{◌-◌, ℕ}
use Rattle.alists.proofs.OnlyAccepted.{only-accepted}
use Rattle.alists.specs.Calls.{Answers, Reads}
use Rattle.alists.specs.Reading.{Reading, fault_in, matrix, reading}
use Rattle.exports.proofs.CellsCopied.{laid-sized}
use Rattle.exports.specs.Calls.{Crossing, RefusedAt, done}
use Rattle.exports.specs.Crossing.{Writing}
use Rattle.exports.specs.Matrices.{AlistCells, AlistShape, CallsWriteAlist, WritesTo, alist_as, alist_cells, alist_written}
use Rattle.exports.specs.Matrices.{CallsReadAlist, MatrixCells, MatrixReading, MatrixShape, ReadsTo, matrix_as, matrix_cells, matrix_read}
use Rattle.plates.specs.declared.Refusal.{Refusal}

module _ (n : ℕ) (rows : List ℕ) (lent : AlistCells) (w : Writing) (shape : AlistShape (length lent.written) (length lent.at))
    (writes : WritesTo n rows lent w) where
  -- a code and cells that the reply crosses as
  alist-crossed : {out : Crossing AlistCells} → out ≡ alist_written lent w → CallsWriteAlist n rows lent out.code out.cells
  alist-crossed e = record { by_shape = inr (shape, record { reply = w; promised = writes; crosses = e }) }

  -- the bytes are in their cell
  pub alist-written : {size : ℕ} → w.reply ≡ Ok size
      → CallsWriteAlist n rows lent done (alist_cells w.room (set lent.written 0 size) (set lent.at 0 0))
  alist-written e = alist-crossed (sym (ap (alist_as lent w.room) e))

  -- the place is in its cell
  pub alist-not-written : {q : Refusal} {r : ℕ} {at' : List ℕ} → w.reply ≡ Err q → RefusedAt q lent.at r at'
      → CallsWriteAlist n rows lent r (alist_cells w.room lent.written at')
  alist-not-written e f =
      alist-crossed
      (ap₂ (λ (x : ℕ) (p : List ℕ). record { code = x; cells = alist_cells w.room lent.written p }) f.number_is f.place_is
      ∙ sym (ap (alist_as lent w.room) e))

-- a table of 64 that is read into still has 64
pub table-length : (text : List ℕ) {r : Result Matrix Refusal} {table' : List ℕ} → Reads text (replicate 64 0) r table' → length table' ≡ 64
table-length text {r} {table'} x = go (reading text) refl x
  where
    go : (q : Reading) → reading text ≡ q → Answers q (replicate 64 0) r table' → length table' ≡ 64
    go (matrix n rows) d y =
        let few = (only-accepted text n rows d).sized.few in
        ap length y.leaves ∙ omega (arith, few, length-append rows (replicate (64 - length rows) 0), length-replicate {A = ℕ} (64 - length rows) 0)
    go (fault_in l) d y = ap length y.leaves

module _ (text : List ℕ) (lent : MatrixCells) (x : MatrixReading) (shape : MatrixShape (length lent.sizes) (length lent.rows) (length lent.at))
    (reads : ReadsTo text x) where
  -- a code and cells that the reply crosses as
  matrix-crossed : {out : Crossing MatrixCells} → out ≡ matrix_read lent x → CallsReadAlist text lent out.code out.cells
  matrix-crossed e = record { by_shape = inr (shape, record { reply = x; promised = reads; crosses = e }) }

  -- the sizes and the table are in their cells
  pub matrix-read : {n count : ℕ} {rows' : List ℕ} → x.reply ≡ Ok (matrix_of n count) → rows' ≡ x.table ++ drop (length x.table) lent.rows
      → CallsReadAlist text lent done (matrix_cells (set (set lent.sizes 0 n) 1 count) rows' (set lent.at 0 0))
  matrix-read {n} {count} e laid =
      matrix-crossed
      (ap (λ (l : List ℕ). record { code = done; cells = matrix_cells (set (set lent.sizes 0 n) 1 count) l (set lent.at 0 0) })
      (laid-sized lent.rows x.table (table-length text reads) laid)
      ∙ sym (ap (matrix_as lent x.table) e))

  -- the place is in its cell
  pub matrix-not-read : {q : Refusal} {r : ℕ} {at' : List ℕ} → x.reply ≡ Err q → RefusedAt q lent.at r at'
      → CallsReadAlist text lent r (matrix_cells lent.sizes lent.rows at')
  matrix-not-read e f =
      matrix-crossed
      (ap₂ (λ (c : ℕ) (p : List ℕ). record { code = c; cells = matrix_cells lent.sizes lent.rows p }) f.number_is f.place_is
      ∙ sym (ap (matrix_as lent x.table) e))
