-- What reading and writing an alist text reply, and what they leave in what is lent.
use Rattle.alists.specs.Made.{matrix_of}
use Rattle.alists.specs.declared.Matrix.{Matrix}
use Rattle.std.specs.Prelude.{length, replicate, ◌++◌, List, [], ◌∷◌, ◌≡◌, ◌-◌, ℕ, Result, Ok, Err}
use Rattle.alists.specs.Reading.{Reading, fault_in, matrix, reading}
use Rattle.alists.specs.Text.{alist_text}
use Rattle.listings.specs.Writing.{Writes, line_room}
use Rattle.plates.specs.declared.Refusal.{Refusal}
use Rattle.plates.specs.declared.Refusal.TheVariants.{AlistFault}
use Rattle.plates.specs.Prepare.{RowOver, bad_length, too_many_rows}

-- ---- reading

-- the reply for a reading: 16 with the line
abbrev pub reply_of : Reading → Result Matrix Refusal
reply_of (matrix n rows) = Ok (matrix_of n (length rows))
reply_of (fault_in l) = Err (AlistFault l)

-- the table of 64 places after it: the rows and zeros behind them; or as it was
abbrev pub table_of : Reading → List ℕ → List ℕ
table_of (matrix n rows) table = rows ++ replicate (64 - length rows) 0
table_of (fault_in l) table = table

-- the reply and the table for a reading
pub record Answers (r : Reading) (table : List ℕ) (reply : Result Matrix Refusal) (table' : List ℕ) : Type 0 where
  pub replies : reply ≡ reply_of r
  pub leaves : table' ≡ table_of r table

-- the promise of reading
abbrev pub Reads : List ℕ → List ℕ → Result Matrix Refusal → List ℕ → Type 0
Reads text = Answers (reading text)

-- ---- writing

-- 16, with place 0: no rows
abbrev pub no_rows : List ℕ → Refusal → Type 0
no_rows rows q = (length rows ≡ 0) × (q ≡ AlistFault 0)

-- refusals 1, 2, 3, 16, 11
abbrev pub write_conditions : ℕ → List ℕ → List ℕ → List (Refusal → Type 0)
write_conditions n rows room = bad_length n ∷ too_many_rows rows ∷ RowOver n rows ∷ no_rows rows ∷ line_room (alist_text n rows) room ∷ []

-- the promise of writing
abbrev pub WritesAlist : ℕ → List ℕ → List ℕ → Result ℕ Refusal → List ℕ → Type 0
WritesAlist n rows room = Writes (write_conditions n rows room) (alist_text n rows) room
