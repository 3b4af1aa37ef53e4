-- An alist text written as a sheet, by what was read of it.
use Rattle.std.proofs.Common.{Result, Ok, Err}
use Rattle.alists.specs.Made.{matrix_of}
use Rattle.alists.specs.declared.Matrix.{Matrix}
use borrow.Author.Tests.{le-ltb, lt-ltb}
use lib.ListN.{length, length-append, replicate, take}
use lib.Seq.{length-take-le, take-append_seam}
use mathlib.Core.List.{◌++◌, List}
use mathlib.Core.Path.{◌≡◌, ap, ap₂, refl, subst, sym, ◌∙◌}
use native.Mathlib.Omega.{arith}
use Prim.Native.Nat.{◌+◌, ◌-◌, ◌<◌, ℕ, ◌≤◌}
use Rattle.alists.proofs.OnlyAccepted.{only-accepted}
use Rattle.alists.specs.Accepted.{Sized}
use Rattle.alists.specs.Calls.{Reads, reply_of, table_of}
use Rattle.alists.specs.Reading as A
use Rattle.listings.specs.Writing.{WritesLine}
use Rattle.outlines.specs.AlistText.{Given, WritesFromAlist, WritesGiven, checks_sheet, given_by, matrix_in, not_given}
use Rattle.plates.specs.declared.Refusal.{Refusal}
use Rattle.plates.specs.declared.Refusal.TheVariants as R

-- ---- the length of the input

too_long : (input : List ℕ) → 32768 < length input → matrix_in input ≡ not_given R.InputTooLong
unfolding matrix_in
too_long input h = rw (lt-ltb 32768 (length input) h)

pub by-reading : (input : List ℕ) → length input ≤ 32768 → matrix_in input ≡ given_by (A.reading input)
unfolding matrix_in
by-reading input h = rw (le-ltb 32768 (length input) h)

pub input-too-long : {input room : List ℕ} → 32768 < length input → WritesFromAlist input room (Err R.InputTooLong) room
input-too-long {input} {room} h = record {
  is = subst (λ (g : Given). WritesGiven g room (Err R.InputTooLong) room) (sym (too_long input h)) (refl, refl);
}

-- ---- what was read

-- the rows of a table that are in use are few where they are counted so
pub rows-taken-few : {count : ℕ} (table : List ℕ) → count ≤ 64 → count ≤ length table → length (take count table) ≤ 64
rows-taken-few {count} table h k = omega (arith, h, length-take-le count table k)

no-matrix : {A : Type 0} {n count : ℕ} {q : Refusal} → ◌≡◌ {A = Result Matrix Refusal} (Ok (matrix_of n count)) (Err q) → A
no-matrix e = let z : ◌≡◌ {A = ℕ} 0 1 = cc in absurd (omega arith)

-- the numbers of a matrix in a reply
abbrev columns_in : Result Matrix Refusal → ℕ
columns_in (Ok m) = m.n
columns_in (Err q) = 0

abbrev rows_in : Result Matrix Refusal → ℕ
rows_in (Ok m) = m.count
rows_in (Err q) = 0

-- a matrix with its rows in the table
record MatrixRead (input : List ℕ) (n count : ℕ) (table : List ℕ) : Type 0 where
  pub rows : List ℕ
  pub is : A.reading input ≡ A.matrix n rows
  pub counted : count ≡ length rows
  pub stands : table ≡ rows ++ replicate (64 - length rows) 0

module _ (input : List ℕ) {before table : List ℕ} {reply : Result Matrix Refusal} (s : Reads input before reply table) where
  matrix-read : {n count : ℕ} → reply ≡ Ok (matrix_of n count) → MatrixRead input n count table
  matrix-read {n} {count} e = by (A.reading input) refl (sym e ∙ s.replies) s.leaves
    where
      by : (found : A.Reading) → A.reading input ≡ found → Ok (matrix_of n count) ≡ reply_of found → table ≡ table_of found before → MatrixRead input n count table
      by (A.matrix k rows) f r t =
          let a : n ≡ k = ap columns_in r in
          let b : count ≡ length rows = ap rows_in r in
          record { rows = rows; is = f ∙ ap (λ (m : ℕ). A.matrix m rows) (sym a); counted = b; stands = t }
      by (A.fault_in l) f r t = no-matrix r

  matrix-sized : {n count : ℕ} (e : reply ≡ Ok (matrix_of n count)) → Sized n (matrix-read e).rows
  matrix-sized {n} e = (only-accepted input n (matrix-read e).rows (matrix-read e).is).sized

  pub matrix-short : {n count : ℕ} → reply ≡ Ok (matrix_of n count) → n ≤ 64
  matrix-short e = (matrix-sized e).most

  pub matrix-few : {n count : ℕ} → reply ≡ Ok (matrix_of n count) → count ≤ 64
  matrix-few e = omega (arith, (matrix-read e).counted, (matrix-sized e).few)

  pub matrix-there : {n count : ℕ} → reply ≡ Ok (matrix_of n count) → count ≤ length table
  matrix-there e =
      let m = matrix-read e in
      let rest : List ℕ = replicate (64 - length m.rows) 0 in
      let l : length table ≡ length m.rows + length rest = ap length m.stands ∙ length-append m.rows rest in
      omega (arith, l, m.counted)

  -- it is written
  pub matrix-given : {n count : ℕ} {room room' : List ℕ} {r : Result ℕ Refusal} → length input ≤ 32768 → reply ≡ Ok (matrix_of n count)
      → WritesLine (checks_sheet n (take count table)) room r room' → WritesFromAlist input room r room'
  matrix-given {n} {count} {room} {room'} {r} h e w =
      let m = matrix-read e in
      let t : take count table ≡ m.rows = ap₂ take m.counted m.stands ∙ take-append_seam m.rows (replicate (64 - length m.rows) 0) in
      record {
        is = subst (λ (g : Given). WritesGiven g room r room') (sym (by-reading input h ∙ ap given_by m.is))
            (subst (λ (rows : List ℕ). WritesLine (checks_sheet n rows) room r room') t w);
      }

  -- a line is faulty
  pub fault-told : {q : Refusal} {room : List ℕ} → length input ≤ 32768 → reply ≡ Err q → WritesFromAlist input room (Err q) room
  fault-told {q} {room} h e = record {
    is = subst (λ (g : Given). WritesGiven g room (Err q) room) (sym (by-reading input h)) (by (A.reading input) (sym e ∙ s.replies));
  }
    where
      by : (found : A.Reading) → Err q ≡ reply_of found → WritesGiven (given_by found) room (Err q) room
      by (A.matrix k rows) f = no-matrix (sym f)
      by (A.fault_in l) f = let g : q ≡ R.AlistFault l = cc in (ap Err g, refl)
