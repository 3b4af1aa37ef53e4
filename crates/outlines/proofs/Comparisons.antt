-- What `write_same` replies, by the plates of the inputs and what is told of them; and the line of that.
use Rattle.std.proofs.Common.{Result, Ok, Err}
use lib.ListN.{length, length-append}
use mathlib.Core.List.{List, [], ◌++◌, ◌∷◌}
use mathlib.Core.Path.{◌≡◌, ap, refl, subst, sym, ◌∙◌}
use native.Mathlib.Omega.{arith}
use Prim.Native.Nat.{ℕ, ◌<◌, ◌≤◌}
use Rattle.listings.proofs.Backwards.{positions-length}
use Rattle.listings.specs.Lines.{positions}
use Rattle.listings.specs.Writing.{WritesLine}
use Rattle.outlines.proofs.Fitting.{text-too-long, text-written}
use Rattle.outlines.proofs.Putting.{puts_then}
use Rattle.outlines.specs.Comparing.{ComparesPlate, FirstBy, SecondBy, WritesSame, WritesTold, compared_as, replied_as, told_line}
use Rattle.outlines.specs.declared.Compared.{Compared}
use Rattle.outlines.specs.declared.Uncompared.{Uncompared}
use Rattle.outlines.specs.declared.Uncompared.TheVariants as U
use Rattle.outlines.specs.declared.comparing.Told.{Told}
use Rattle.outlines.specs.declared.comparing.Told.TheVariants as T
use Rattle.outlines.specs.declared.opening.Which.TheVariants.{Own}
use Rattle.outlines.specs.Opening.{Opened}
use Rattle.outlines.specs.Putting.{Puts}
use Rattle.outlines.specs.Searching.{ToldOf}
use Rattle.plates.specs.declared.Plate.{Plate}
use Rattle.plates.specs.declared.Prepared.{Prepared}
use Rattle.plates.specs.declared.Refusal.{Refusal}
use Rattle.plates.specs.declared.Refusal.TheVariants as R
use Rattle.words.specs.Letters.{bytes}

-- ---- the line

module _ (n : ℕ) {told : Told} {room room' : List ℕ} {r : ℕ} where
  pub same-put : told ≡ T.Same → Puts room 0 (115 ∷ 97 ∷ 109 ∷ 101 ∷ 10 ∷ []) room' r → Puts room 0 (told_line n told) room' r
  unfolding told_line
  same-put e p = rw e p

  pub mirrored-put : told ≡ T.Mirrored → Puts room 0 (109 ∷ 105 ∷ 114 ∷ 114 ∷ 111 ∷ 114 ∷ 101 ∷ 100 ∷ 10 ∷ []) room' r → Puts room 0 (told_line n told) room' r
  unfolding told_line
  mirrored-put e p = rw e p

  pub lengths-put : told ≡ T.Lengths → Puts room 0 (111 ∷ 116 ∷ 104 ∷ 101 ∷ 114 ∷ 10 ∷ []) room' r → Puts room 0 (told_line n told) room' r
  unfolding told_line
  lengths-put e p = rw e p

  module _ {w : ℕ} where
    pub first-put : told ≡ T.First w
        → Puts room 0 (bytes "other" ++ (9 ∷ (positions w 0 n ++ (9 ∷ 102 ∷ 105 ∷ 114 ∷ 115 ∷ 116 ∷ 10 ∷ [])))) room' r
        → Puts room 0 (told_line n told) room' r
    unfolding told_line
    first-put e p = rw e p

    pub second-put : told ≡ T.Second w
        → Puts room 0 (bytes "other" ++ (9 ∷ (positions w 0 n ++ (9 ∷ 115 ∷ 101 ∷ 99 ∷ 111 ∷ 110 ∷ 100 ∷ 10 ∷ [])))) room' r
        → Puts room 0 (told_line n told) room' r
    unfolding told_line
    second-put e p = rw e p

-- other, a tab, the word, and what follows it
pub word-put : (n w : ℕ) {at r s t : ℕ} {whose a b c d : List ℕ} → Puts a at (111 ∷ 116 ∷ 104 ∷ 101 ∷ 114 ∷ 9 ∷ []) b r → Puts b r (positions w 0 n) c s
    → Puts c s whose d t → Puts a at (bytes "other" ++ (9 ∷ (positions w 0 n ++ whose))) d t
word-put n w p q r = puts_then p (puts_then q r)

pub told-length : (n : ℕ) (told : Told) → n ≤ 64 → length (told_line n told) ≤ 256
unfolding told_line
told-length n T.Same h = omega arith
told-length n T.Mirrored h = omega arith
told-length n T.Lengths h = omega arith
told-length n (T.First w) h =
    let l = length-append (positions w 0 n) (9 ∷ 102 ∷ 105 ∷ 114 ∷ 115 ∷ 116 ∷ 10 ∷ []) in omega (arith, h, l, positions-length w 0 n)
told-length n (T.Second w) h =
    let l = length-append (positions w 0 n) (9 ∷ 115 ∷ 101 ∷ 99 ∷ 111 ∷ 110 ∷ 100 ∷ 10 ∷ []) in omega (arith, h, l, positions-length w 0 n)

module _ (n : ℕ) (told : Told) (h : n ≤ 64) where
  pub told-written : {room room' scratch scratch' : List ℕ} {size r : ℕ} → Puts scratch 0 (told_line n told) scratch' size → size ≤ length room
      → Puts room 0 (told_line n told) room' r → WritesLine (told_line n told) room (Ok size) room'
  told-written = text-written (told_line n told) (omega (arith, told-length n told h))

  pub told-too-long : {room scratch scratch' : List ℕ} {size : ℕ} → Puts scratch 0 (told_line n told) scratch' size → length room < size
      → WritesLine (told_line n told) room (Err R.LineRoom) room
  told-too-long = text-too-long (told_line n told) (omega (arith, told-length n told h))

-- ---- the reply

module _ {a b : Plate} {told : Told} {written : Result ℕ Refusal} {room room' : List ℕ} (t : ToldOf a b told)
    (w : WritesLine (told_line a.n told) room written room') where
  pub plates-told : {size : ℕ} {r : Compared} → written ≡ Ok size → r ≡ compared_as told size → WritesTold a b room (Ok r) room'
  plates-told e f = record { told = told; tells = t.is; written = written; puts = w; is = ap (λ (c : Compared). Ok c) f ∙ ap (replied_as told) (sym e) }

  pub plates-untold : {q : Refusal} → written ≡ Err q → WritesTold a b room (Err (U.Room q)) room'
  plates-untold e = record { told = told; tells = t.is; written = written; puts = w; is = ap (replied_as told) (sym e) }

-- the second input
module _ {a : Plate} {second room : List ℕ} {prepared : Prepared} (o : Opened Own second prepared) where
  pub second-refused : {q : Refusal} → prepared.verdict ≡ Err q → ComparesPlate a second room (Err (U.Second q)) room
  second-refused {q} e = record {
    prepared = prepared;
    opened = o;
    is = subst (λ (v : Result (Unit {0}) Refusal). SecondBy v a prepared.plate room (Err (U.Second q)) room) (sym e) (refl, refl);
  }

  pub second-compared : {r : Result Compared Uncompared} {room' : List ℕ} → prepared.verdict ≡ Ok tt → WritesTold a prepared.plate room r room'
      → ComparesPlate a second room r room'
  second-compared {r} {room'} e w = record {
    prepared = prepared;
    opened = o;
    is = subst (λ (v : Result (Unit {0}) Refusal). SecondBy v a prepared.plate room r room') (sym e) w;
  }

-- the first input
module _ {first second room : List ℕ} {prepared : Prepared} (o : Opened Own first prepared) where
  pub first-refused : {q : Refusal} → prepared.verdict ≡ Err q → WritesSame first second room (Err (U.First q)) room
  first-refused {q} e = record {
    prepared = prepared;
    opened = o;
    is = subst (λ (v : Result (Unit {0}) Refusal). FirstBy v prepared.plate second room (Err (U.First q)) room) (sym e) (refl, refl);
  }

  pub first-compared : {r : Result Compared Uncompared} {room' : List ℕ} → prepared.verdict ≡ Ok tt → ComparesPlate prepared.plate second room r room'
      → WritesSame first second room r room'
  first-compared {r} {room'} e w = record {
    prepared = prepared;
    opened = o;
    is = subst (λ (v : Result (Unit {0}) Refusal). FirstBy v prepared.plate second room r room') (sym e) w;
  }
