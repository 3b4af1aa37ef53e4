-- A sheet put into a room that was measured for it, and the rows of a prepared plate.
use Rattle.std.proofs.Common.{Result, Ok, Err}
use Rattle.plates.specs.declared.Refusal.{Refusal}
use lib.ListN.{drop, length, length-append}
use lib.Seq.{sets, sets-eq}
use mathlib.Core.Bool.{Bool, cond, false, true}
use mathlib.Core.List.{◌++◌, List, [], ◌∷◌}
use mathlib.Core.Path.{◌≡◌, sym, ◌∙◌}
use native.Mathlib.Omega.{arith}
use Prim.Native.Nat.{◌*◌, ◌+◌, ◌<◌, ℕ, ◌≤◌}
use lib.Dec.{eqb}
use Rattle.decoding.specs.Cosets.{taken_off}
use Rattle.listings.proofs.Backwards.{positions-length}
use Rattle.listings.proofs.Conditions.{fits-room, too_long}
use Rattle.listings.proofs.Fits256.{decimal-two}
use Rattle.listings.specs.Lines.{line, positions}
use Rattle.listings.specs.Writing.{WritesLine}
use Rattle.outlines.specs.Putting.{Puts}
use Rattle.outlines.specs.SheetText.{cover_line, mask_lines, row_line, row_lines, sheet_of, sheet_text}
use Rattle.plates.proofs.SoundIsPrepared.{sound, used-rows}
use Rattle.plates.specs.declared.Kind.{Kind}
use Rattle.plates.specs.declared.Kind.TheVariants.{G}
use Rattle.plates.specs.declared.Plate.{Plate}
use Rattle.plates.specs.declared.Refusal.TheVariants as R
use Rattle.plates.specs.Prepare.{IsPrepared, rows_of}
use Rattle.sheets.specs.Words.{mask}

-- ---- how long a sheet is

row-length : (n word : ℕ) → length (row_line n word) ≡ n + 5
row-length n word = let l = length-append (positions word 0 n) (10 ∷ []) in omega (arith, l, positions-length word 0 n)

-- 64 rows of 64 positions take 69 bytes each
rows-length : (n : ℕ) (rows : List ℕ) → n ≤ 64 → length (row_lines n rows) ≤ length rows * 69
rows-length n [] h = omega arith
rows-length n (w ∷ rows) h = omega (arith, rows-length n rows h, length-append (row_line n w) (row_lines n rows), row-length n w)

mask-length : (n word : ℕ) → n ≤ 64 → length (mask_lines n word) ≤ 70
unfolding mask_lines
mask-length n word h = by (eqb word 0)
  where
    by : (none : Bool) → length (cond none [] (line mask (positions word 0 n ∷ []))) ≤ 70
    by true = omega arith
    by false = let l = length-append (positions word 0 n) (10 ∷ []) in omega (arith, h, l, positions-length word 0 n)

cover-length : (kind : Kind) (n : ℕ) → n ≤ 64 → length (cover_line kind n) ≤ 18
unfolding cover_line
cover-length kind n h = simp length-append (omega (arith, decimal-two n (omega (arith, h))))

pub sheet-length : (kind : Kind) (n word : ℕ) (rows : List ℕ) → n ≤ 64 → length rows ≤ 64 → length (sheet_text kind n word rows) ≤ 8192
unfolding sheet_text
sheet-length kind n word rows h k =
    simp length-append (omega (arith, k, cover-length kind n h, mask-length n word h, rows-length n rows h))

-- ---- a text put at the start of a room

module _ (text : List ℕ) (short : length text ≤ 8192) where
  fits : 0 + length text < 18446744073709551616
  fits = omega (arith, short)

  -- that was measured before
  pub text-written : {room room' scratch scratch' : List ℕ} {size r : ℕ} → Puts scratch 0 text scratch' size → size ≤ length room
      → Puts room 0 text room' r → WritesLine text room (Ok size) room'
  text-written {room} {size = size} m l p =
      let e : size ≡ length text = m.next fits ∙ omega arith in
      let z : 0 + length text ≡ length text = omega arith in
      let s : sets room 0 text ≡ text ++ drop (0 + length text) room = sets-eq text room 0 (omega (arith, e, l)) in
      rw (e, p.stands fits, s, z) (fits-room text room (omega (arith, e, l)))

  pub text-too-long : {room scratch scratch' : List ℕ} {size : ℕ} → Puts scratch 0 text scratch' size → length room < size
      → WritesLine text room (Err R.LineRoom) room
  text-too-long {room} m l = too_long text room (omega (arith, m.next fits, l))

module _ (kind : Kind) (n word : ℕ) (rows : List ℕ) (h : n ≤ 64) (k : length rows ≤ 64) where
  pub sheet-written : {room room' scratch scratch' : List ℕ} {size r : ℕ} → Puts scratch 0 (sheet_text kind n word rows) scratch' size → size ≤ length room
      → Puts room 0 (sheet_text kind n word rows) room' r → WritesLine (sheet_text kind n word rows) room (Ok size) room'
  sheet-written = text-written (sheet_text kind n word rows) (sheet-length kind n word rows h k)

  pub sheet-too-long : {room scratch scratch' : List ℕ} {size : ℕ} → Puts scratch 0 (sheet_text kind n word rows) scratch' size → length room < size
      → WritesLine (sheet_text kind n word rows) room (Err R.LineRoom) room
  sheet-too-long = text-too-long (sheet_text kind n word rows) (sheet-length kind n word rows h k)

-- ---- the rows of a prepared plate

module _ {plate : Plate} (p : IsPrepared plate) where
  -- so many are in use
  pub rows-used : plate.k ≡ length (rows_of plate)
  rows-used = sym (used-rows plate p.few (sound p).table)

  pub rows-there : plate.k ≤ length plate.rows
  rows-there = omega (arith, p.few, (sound p).table)

  pub plate-short : plate.n ≤ 64
  plate-short = (sound p).short

  pub rows_few : length (rows_of plate) ≤ 64
  rows_few = omega (arith, p.few, rows-used)

-- with what is left of the mask
pub plate-written : (plate : Plate) {word : ℕ} {room room' : List ℕ} {r : Result ℕ Refusal} → word ≡ taken_off (rows_of plate) plate.mask
    → WritesLine (sheet_text G plate.n word (rows_of plate)) room r room' → WritesLine (sheet_of plate) room r room'
plate-written plate e w = rw e at w
