-- A1, parity checks from the code designers: H matrices as MacKay's alist text. Definitions: alists/specs/Text (`alist_text`: the lines in the request's
-- order), Reading (`reading`), OwnForm (`OwnForm`), Accepted (`Sized`, `Accepted`), Calls (`Reads`,
-- `WritesAlist`), and demands/specs/AlistFaults (`FirstFaulty`: each line judged against those above it, the first that is faulty, missing or extra).
use Rattle.std.proofs.Common.{Result, Ok, Err}
use Rattle.alists.specs.Made.{matrix_of}
use Rattle.alists.specs.declared.Matrix.{Matrix}
use lib.ListN.{drop, get_or, length, replicate, take}
use mathlib.Core.List.{◌++◌, List, [], ◌∷◌}
use mathlib.Core.Logic.{◌↔◌}
use mathlib.Core.Path.{ap, refl, subst, sym, ◌∙◌, ◌≡◌}
use native.Mathlib.Omega.{arith}
use Prim.Native.Nat.{◌-◌, ◌<◌, ◌^◌, ℕ, ◌≤◌}
use Rattle.alists.proofs.BothCalls.{read-and-written, written-and-read}
use Rattle.alists.proofs.Determined.{write-determined}
use Rattle.alists.proofs.OnlyAccepted.{only-accepted}
use Rattle.alists.proofs.OwnFormKeeps.{own-form-keeps}
use Rattle.alists.proofs.ReadsBack.{accepted-reads, written-reads-back}
use Rattle.alists.proofs.WrittenForm.{written-is-own-form}
use Rattle.alists.specs.Accepted.{Accepted, Sized}
use Rattle.alists.specs.Calls.{Reads, WritesAlist, reply_of, table_of, write_conditions}
use Rattle.alists.specs.OwnForm.{OwnForm}
use Rattle.alists.specs.Reading.{Reading, fault_in, matrix, reading}
use Rattle.alists.specs.Text.{alist_text}
use Rattle.demands.proofs.Demand1.{its-number}
use Rattle.demands.proofs.AlistFaults.{matrix-has-none, told-exactly}
use Rattle.demands.specs.AlistFaults.{FirstFaulty, NoneFaulty}
use Rattle.demands.specs.Refusing.{Numbered, WriteRefuses}
use Rattle.listings.specs.Writing.{WritesAs}
use Rattle.plates.specs.declared.Refusal.{Refusal}
use Rattle.plates.specs.declared.Refusal.TheVariants.{AlistFault}
use Rattle.plates.specs.Refusals.{number, place}
use Rattle.sheets.specs.Text.{lines}

-- ---- what is read and written

-- a written text reads back as the same matrix: columns and rows 1 to 64, and no one at n or beyond
pub written-text-reads-back : (n : ℕ) (rows : List ℕ) → Sized n rows → reading (alist_text n rows) ≡ matrix n rows
written-text-reads-back = written-reads-back

-- by the two calls: what `write` wrote, `read` reads so
pub write-then-read : (n : ℕ) (rows room : List ℕ) (size : ℕ) (room' table : List ℕ) (r : Result Matrix Refusal) (table' : List ℕ) → WritesAlist n rows room (Ok size) room'
    → Reads (take size room') table r table' → (r ≡ Ok (matrix_of n (length rows))) × (table' ≡ rows ++ replicate (64 - length rows) 0)
write-then-read n rows room size room' table r table' w x = written-and-read n rows room size room' table w x

-- text in our form, read and written, keeps its bytes
pub own-form-keeps-bytes : (text : List ℕ) (n : ℕ) (rows : List ℕ) → OwnForm text → reading text ≡ matrix n rows → alist_text n rows ≡ text
own-form-keeps-bytes = own-form-keeps

pub read-then-write : (text table : List ℕ) (n count : ℕ) (table' room : List ℕ) (r : Result ℕ Refusal) (room' : List ℕ) → OwnForm text
    → Reads text table (Ok (matrix_of n count)) table' → length text ≤ length room → WritesAlist n (take count table') room r room'
    → (r ≡ Ok (length text)) × (room' ≡ text ++ drop (length text) room)
read-then-write text table n count table' room r room' f x h w = read-and-written text table n count table' room f x h w

-- we write in our form: spaces between numbers, a line feed after each line, indices ascending
pub written-in-own-form : (n : ℕ) (rows : List ℕ) → Sized n rows → OwnForm (alist_text n rows)
written-in-own-form = written-is-own-form

-- beyond our form, reading accepts only several spaces for one and indices in any order, and it accepts these
pub accepted-exactly : (text : List ℕ) (n : ℕ) (rows : List ℕ) → (reading text ≡ matrix n rows) ↔ Accepted text n rows
accepted-exactly text n rows = (only-accepted text n rows, accepted-reads text n rows)

-- columns and rows are 1 to 64
pub sizes-are-one-to-sixty-four : (text : List ℕ) (n : ℕ) (rows : List ℕ) → reading text ≡ matrix n rows
    → (1 ≤ n) × (n ≤ 64) × (1 ≤ length rows) × (length rows ≤ 64) × ((j : ℕ) → j < length rows → get_or rows j 0 < 2 ^ n)
sizes-are-one-to-sixty-four text n rows e =
    let s = (only-accepted text n rows e).sized in (s.least, s.most, s.some, s.few, s.below)

-- ---- refusals of reading: 16, with the line

pub sixteen-has-line : (l : ℕ) → (number (AlistFault l) ≡ 16) × (place (AlistFault l) ≡ l)
sixteen-has-line l = (refl, refl)

-- the line told is the first that is faulty, missing or extra: the lines of the text by its line feeds, each judged against those above it
-- (specs/AlistFaults, which names no reader)
pub line-told-exactly : (text : List ℕ) (l : ℕ) → (reading text ≡ fault_in l) ↔ FirstFaulty [] (lines text) l
line-told-exactly = told-exactly

-- and a text that reads as a matrix has none
pub matrix-has-no-fault : (text : List ℕ) (n : ℕ) (rows : List ℕ) → reading text ≡ matrix n rows → NoneFaulty [] (lines text)
matrix-has-no-fault = matrix-has-none

module _ (text table : List ℕ) (r : Result Matrix Refusal) (table' : List ℕ) (x : Reads text table r table') where
  -- refused exactly where the reading is a fault in a line, and with nothing else
  pub read-refuses-exactly : (q : Refusal) → (r ≡ Err q) ↔ ((l : ℕ) × (reading text ≡ fault_in l) × (q ≡ AlistFault l))
  read-refuses-exactly q = (
    (λ e. told (reading text) refl (sym x.replies ∙ e)),
    λ y. x.replies ∙ ap reply_of y.1 ∙ ap Err (sym y.2),
  )
    where
      told : (z : Reading) → reading text ≡ z → reply_of z ≡ Err q → (l : ℕ) × (reading text ≡ fault_in l) × (q ≡ AlistFault l)
      told (matrix n rows) e f = let z : ◌≡◌ {A = ℕ} 0 1 = cc in absurd (omega arith)
      told (fault_in l) e f = (l, e, cc)

  -- a refused call leaves the table
  pub read-refused-unchanged : (q : Refusal) → r ≡ Err q → table' ≡ table
  read-refused-unchanged q e = let y = (read-refuses-exactly q).0 e in x.leaves ∙ ap (λ (z : Reading). table_of z table) y.1

  -- one that succeeds leaves the rows there, and zeros behind them
  pub read-leaves-rows : (n : ℕ) (rows : List ℕ) → reading text ≡ matrix n rows
      → (r ≡ Ok (matrix_of n (length rows))) × (table' ≡ rows ++ replicate (64 - length rows) 0)
  read-leaves-rows n rows e = (x.replies ∙ ap reply_of e, x.leaves ∙ ap (λ (z : Reading). table_of z table) e)

-- ---- refusals of writing: 1 to 3, then 16 with place 0 for a matrix with no rows, then 11

module _ (n : ℕ) (rows room : List ℕ) where
  pub write-numbers : Numbered (write_conditions n rows room) (1 ∷ 2 ∷ 3 ∷ 16 ∷ 11 ∷ [])
  write-numbers = (its-number, (its-number, ((λ q c. ap number c.is), (its-number, (its-number, tt)))))

  module _ (r : Result ℕ Refusal) (room' : List ℕ) (w : WritesAlist n rows room r room') where
    -- refused exactly under them, and then the room is as it was
    pub write-refuses : WriteRefuses (write_conditions n rows room) room r room'
    write-refuses = (
      (λ q. (
        (λ e. (subst (WritesAs (write_conditions n rows room) (alist_text n rows) room room') e w.reply).0),
        λ h. (write-determined n rows room {s = Err q} {b = room} w (record { reply = (h, refl) })).0,
      )),
      λ q e. (subst (WritesAs (write_conditions n rows room) (alist_text n rows) room room') e w.reply).1,
    )

    -- else the text stands at the start of the room, and the bytes behind it are as they were
    pub write-leaves-text : (size : ℕ) → r ≡ Ok size
        → (size ≡ length (alist_text n rows)) × (room' ≡ alist_text n rows ++ drop (length (alist_text n rows)) room)
    write-leaves-text size e = let y = subst (WritesAs (write_conditions n rows room) (alist_text n rows) room room') e w.reply in (y.1, y.2)

-- place 0
pub no-rows-has-place-zero : (number (AlistFault 0) ≡ 16) × (place (AlistFault 0) ≡ 0)
no-rows-has-place-zero = (refl, refl)
