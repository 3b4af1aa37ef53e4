-- The two calls one after the other: what is written and read, and what is read and written.
use Rattle.std.proofs.Common.{Err, Ok, Result}
use Rattle.alists.specs.Made.{matrix_of}
use Rattle.alists.specs.declared.Matrix.{Matrix}
use lib.ListN.{drop, get_or, length, replicate, take}
use lib.Seq.{take-append_seam}
use mathlib.Core.List.{◌++◌, List}
use mathlib.Core.Logic.{inl, inr}
use mathlib.Core.Path.{◌≡◌, ap, refl, ◌∙◌}
use native.Mathlib.Decide.{dec_lt}
use native.Mathlib.Omega.{arith}
use Prim.Native.Nat.{◌-◌, ◌<◌, ◌^◌, suc, zero, ℕ, ◌≤◌}
use Rattle.alists.proofs.Determined.{write-determined}
use Rattle.alists.proofs.OnlyAccepted.{only-accepted}
use Rattle.alists.proofs.OwnFormKeeps.{own-form-keeps}
use Rattle.alists.proofs.ReadsBack.{written-reads-back}
use Rattle.alists.proofs.Replies.{as_line}
use Rattle.alists.specs.Accepted.{Sized}
use Rattle.alists.specs.Calls.{Answers, Reads, WritesAlist, write_conditions}
use Rattle.alists.specs.OwnForm.{OwnForm}
use Rattle.alists.specs.Reading.{Reading, fault_in, matrix, reading}
use Rattle.alists.specs.Text.{alist_text}
use Rattle.listings.proofs.Conditions.{fits-room}
use Rattle.plates.specs.declared.Refusal.{Refusal}
use Rattle.plates.specs.declared.Refusal.TheVariants as R
use Rattle.plates.specs.Prepare.{RowOver}
use Rattle.plates.specs.Refusals.{Passes}

-- ---- read and written

-- a matrix of such sizes is written where there is room
sized-written : (n : ℕ) (rows room : List ℕ) → Sized n rows → length (alist_text n rows) ≤ length room
    → WritesAlist n rows room (Ok (length (alist_text n rows))) (alist_text n rows ++ drop (length (alist_text n rows)) room)
sized-written n rows room z h =
    let a = z.least in
    let b = z.some in
    as_line n rows room (λ e. omega (arith, e, a)) z.most z.few z.below (λ e. omega (arith, e, b)) (fits-room (alist_text n rows) room h)

-- the sizes in a reply; 0 where it is refused
abbrev columns_in : Result Matrix Refusal → ℕ
columns_in (Ok m) = m.n
columns_in (Err q) = 0

abbrev rows_in : Result Matrix Refusal → ℕ
rows_in (Ok m) = m.count
rows_in (Err q) = 0

-- what a reply with a matrix means
record MatrixRead (text : List ℕ) (n count : ℕ) (table' : List ℕ) : Type 0 where
  pub is : reading text ≡ matrix n (take count table')

matrix-read : (text table : List ℕ) (n count : ℕ) (table' : List ℕ) → Reads text table (Ok (matrix_of n count)) table' → MatrixRead text n count table'
matrix-read text table n count table' x = go (reading text) refl x
  where
    go : (q : Reading) → reading text ≡ q → Answers q table (Ok (matrix_of n count)) table' → MatrixRead text n count table'
    go (matrix k rows) d y =
        let r = y.replies in
        let a : n ≡ k = ap columns_in r in
        let b : count ≡ length rows = ap rows_in r in
        let t : take count table' ≡ rows = rw (b, y.leaves) (take-append_seam rows (replicate (64 - length rows) 0)) in
        record { is = d ∙ rw (a, t) }
    go (fault_in l) d y = absurd (let r = y.replies in let z : ◌≡◌ {A = ℕ} 0 1 = cc in omega arith)

-- a text in our form that is read as a matrix and written, with room for it, keeps its bytes
pub read-and-written : (text table : List ℕ) (n count : ℕ) (table' room : List ℕ) {r : Result ℕ Refusal} {room' : List ℕ} → OwnForm text
    → Reads text table (Ok (matrix_of n count)) table' → length text ≤ length room → WritesAlist n (take count table') room r room'
    → (r ≡ Ok (length text)) × (room' ≡ text ++ drop (length text) room)
read-and-written text table n count table' room {r} {room'} f x h w =
    let e = (matrix-read text table n count table' x).is in
    let k = own-form-keeps text n (take count table') f e in
    let s = sized-written n (take count table') room (only-accepted text n (take count table') e).sized (rw k h) in
    let d = write-determined n (take count table') room w s in
    rw k at d

-- ---- written and read

-- no row has a one at n or beyond where none is the first
rows-below : (n : ℕ) (rows : List ℕ) → ((q : Refusal) → RowOver n rows q → ⊥) → (i j : ℕ) → j < i → j < length rows → get_or rows j 0 < 2 ^ n
rows-below n rows none zero j h l = absurd (omega (arith, h))
rows-below n rows none (suc i) j h l = go (dec_lt j i) (rows-below n rows none i) (dec_lt (get_or rows j 0) (2 ^ n))
  where
    go : Dec (j < i) → ((k : ℕ) → k < i → k < length rows → get_or rows k 0 < 2 ^ n) → Dec (get_or rows j 0 < 2 ^ n) → get_or rows j 0 < 2 ^ n
    go (yes b) before d = before j b l
    go (no b) before (yes d) = d
    go (no b) before (no d) =
        let first : (k : ℕ) → k < j → get_or rows k 0 < 2 ^ n = λ k g. before k (omega (arith, g, h)) (omega (arith, g, l)) in
        absurd (none (R.RowBeyond j) (record { row = j; there = l; over = omega (arith, d); first = first; is = refl }))

-- what is written has such sizes
written-sized : (n : ℕ) (rows room : List ℕ) → Passes (write_conditions n rows room) → Sized n rows
written-sized n rows room p = record {
  least = above (dec_lt 0 n);
  most = within (dec_lt 64 n);
  some = filled (dec_lt 0 (length rows));
  few = short (dec_lt 64 (length rows));
  below = λ j l. rows-below n rows p.1.1.0 (suc j) j (omega arith) l;
}
  where
    above : Dec (0 < n) → 1 ≤ n
    above (yes h) = omega (arith, h)
    above (no h) = absurd (p.0 R.Length (inl (omega (arith, h)), refl))

    within : Dec (64 < n) → n ≤ 64
    within (yes h) = absurd (p.0 R.Length (inr h, refl))
    within (no h) = omega (arith, h)

    filled : Dec (0 < length rows) → 1 ≤ length rows
    filled (yes h) = omega (arith, h)
    filled (no h) = absurd (p.1.1.1.0 (R.AlistFault 0) (omega (arith, h), refl))

    short : Dec (64 < length rows) → length rows ≤ 64
    short (yes h) = absurd (p.1.0 R.TooManyRows (h, refl))
    short (no h) = omega (arith, h)

-- a matrix that is written, and its text read, is the same matrix
pub written-and-read : (n : ℕ) (rows room : List ℕ) (size : ℕ) (room' table : List ℕ) {r : Result Matrix Refusal} {table' : List ℕ}
    → WritesAlist n rows room (Ok size) room'
    → Reads (take size room') table r table' → (r ≡ Ok (matrix_of n (length rows))) × (table' ≡ rows ++ replicate (64 - length rows) 0)
written-and-read n rows room size room' table {r} {table'} w x =
    let p = w.reply in
    let t : take size room' ≡ alist_text n rows = rw (p.1, p.2) (take-append_seam (alist_text n rows) (drop (length (alist_text n rows)) room)) in
    let e : reading (take size room') ≡ matrix n rows = ap reading t ∙ written-reads-back n rows (written-sized n rows room p.0) in
    let y : Answers (matrix n rows) table r table' = rw e at x in
    (y.replies, y.leaves)
