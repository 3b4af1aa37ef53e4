-- How a parity check matrix crosses the interface as alist text, written and read: the cells, and the promises of the two calls.
use Rattle.plates.specs.declared.Refusal.{Refusal}
use Rattle.alists.specs.declared.Matrix.{Matrix}
use Rattle.std.specs.Prelude.{drop, length, replicate, set, ◌++◌, List, ℕ, ◌≤◌, Result, Ok, Err}
use Rattle.alists.specs.Calls.{Reads, WritesAlist}
use Rattle.exports.specs.Calls.{Calls, Crossing, done}
use Rattle.exports.specs.Crossing.{Writing}
use Rattle.plates.specs.Refusals.{number, place}

-- ---- written

-- the cells that are lent to writing
pub record AlistCells : Type 0 where
  pub room : List ℕ
  pub written : List ℕ
  pub at : List ℕ

-- the same, one by one
abbrev pub alist_cells : List ℕ → List ℕ → List ℕ → AlistCells
alist_cells room written at = record { room = room; written = written; at = at }

-- the bytes of the text and place 0; or the place of the refusal alone
abbrev pub alist_as : AlistCells → List ℕ → Result ℕ Refusal → Crossing AlistCells
alist_as lent room (Ok size) = record { code = done; cells = alist_cells room (set lent.written 0 size) (set lent.at 0 0) }
alist_as lent room (Err q) = record { code = number q; cells = alist_cells room lent.written (set lent.at 0 (place q)) }

abbrev pub alist_written : AlistCells → Writing → Crossing AlistCells
alist_written lent w = alist_as lent w.room w.reply

-- how long the cell of the bytes and that of the place must be
abbrev pub AlistShape : ℕ → ℕ → Type 0
AlistShape written at = (1 ≤ written) × (1 ≤ at)

-- what writing promises of its reply and its room
abbrev pub WritesTo : ℕ → List ℕ → AlistCells → Writing → Type 0
WritesTo n rows lent w = WritesAlist n rows lent.room w.reply w.room

-- a matrix written: fixed are the cell of the bytes and that of the place
abbrev pub CallsWriteAlist : ℕ → List ℕ → AlistCells → ℕ → AlistCells → Type 0
CallsWriteAlist n rows lent r lent' =
    Calls (AlistShape (length lent.written) (length lent.at)) lent (WritesTo n rows lent) (alist_written lent) (record { code = r; cells = lent' })

-- ---- read

-- the cells that are lent to reading
pub record MatrixCells : Type 0 where
  pub sizes : List ℕ
  pub rows : List ℕ
  pub at : List ℕ

-- the same, one by one
abbrev pub matrix_cells : List ℕ → List ℕ → List ℕ → MatrixCells
matrix_cells sizes rows at = record { sizes = sizes; rows = rows; at = at }

-- what reading replies, with its table as it leaves it
pub record MatrixReading : Type 0 where
  pub reply : Result Matrix Refusal
  pub table : List ℕ

-- the numbers of columns and of rows, the table in the first 64 cells, and place 0; or the place of the refusal alone
abbrev pub matrix_as : MatrixCells → List ℕ → Result Matrix Refusal → Crossing MatrixCells
matrix_as lent table (Ok m) = record {
  code = done;
  cells = matrix_cells (set (set lent.sizes 0 m.n) 1 m.count) (table ++ drop 64 lent.rows) (set lent.at 0 0);
}
matrix_as lent table (Err q) = record { code = number q; cells = matrix_cells lent.sizes lent.rows (set lent.at 0 (place q)) }

abbrev pub matrix_read : MatrixCells → MatrixReading → Crossing MatrixCells
matrix_read lent x = matrix_as lent x.table x.reply

-- how long the cells of the sizes, those of the rows and that of the place must be
abbrev pub MatrixShape : ℕ → ℕ → ℕ → Type 0
MatrixShape sizes rows at = (2 ≤ sizes) × (64 ≤ rows) × (1 ≤ at)

-- what reading promises of its reply and of a table of 64 zeros that is lent to it
abbrev pub ReadsTo : List ℕ → MatrixReading → Type 0
ReadsTo text x = Reads text (replicate 64 0) x.reply x.table

-- a text read: fixed are the cells of the sizes, those of the rows and that of the place
abbrev pub CallsReadAlist : List ℕ → MatrixCells → ℕ → MatrixCells → Type 0
CallsReadAlist text lent r lent' =
    Calls (MatrixShape (length lent.sizes) (length lent.rows) (length lent.at)) lent (ReadsTo text) (matrix_read lent)
    (record { code = r; cells = lent' })
