-- The replies of writing, one condition after the other.
use lib.ListN.{drop, get_or, length}
use lib.Seq.{sets, sets-eq}
use mathlib.Core.List.{◌++◌, List}
use mathlib.Core.Logic.{inl, inr}
use mathlib.Core.Path.{◌≡◌, refl, ◌∙◌}
use native.Mathlib.Omega.{arith}
use Prim.Native.Nat.{◌+◌, ◌<◌, ◌^◌, ℕ, ◌≤◌}
use borrow.Author.Tests.{leb-false, leb-true}
use lib.Dec.{leb}
use Rattle.std.proofs.Common.{None, Some, Result, Ok, Err}
use Rattle.std.specs.List.{position, position_or_len}
use Rattle.std.proofs.lemmas.Grind.{common_steps}
use Rattle.std.proofs.lemmas.List.Sums.{fails_before_first}
use Rattle.std.proofs.lemmas.List.Quantifiers.{position-Some}
use Rattle.alists.specs.Calls.{WritesAlist}
use Rattle.alists.specs.Text.{alist_text}
use Rattle.alists.specs.Working.{Puts}
use Rattle.listings.proofs.Conditions.{fits-room, passed_first, refused-first, too_long}
use Rattle.listings.specs.Writing.{WritesLine}
use Rattle.plates.specs.declared.Refusal.{Refusal}
use Rattle.plates.specs.declared.Refusal.TheVariants as R
use Rattle.plates.specs.Prepare.{RowOver, bad_length}

-- where no row is found beyond n, each is below
pub none-beyond : (n : ℕ) (rows : List ℕ) → position (λ row. leb (2 ^ n) row) rows ≡ None → (j : ℕ) → j < length rows → get_or rows j 0 < 2 ^ n
none-beyond n rows e j h =
    let all : length rows ≤ position_or_len (λ row. leb (2 ^ n) row) rows = grind (arith, common_steps) in
    leb-false (2 ^ n) _ (fails_before_first (λ row. leb (2 ^ n) row) rows j 0 (omega (arith, all, h)))

module _ (n : ℕ) (rows room : List ℕ) where
  pub length-zero : n ≡ 0 → WritesAlist n rows room (Err R.Length) room
  length-zero e = refused-first (inl e, refl)

  pub length_over : 64 < n → WritesAlist n rows room (Err R.Length) room
  length_over h = refused-first (inr h, refl)

  length-good : (n ≡ 0 → ⊥) → n ≤ 64 → (p : Refusal) → bad_length n p → ⊥
  length-good z h p (inl e, q) = z e
  length-good z h p (inr o, q) = omega (arith, h, o)

  module _ (z : n ≡ 0 → ⊥) (h : n ≤ 64) where
    pub rows-over : 64 < length rows → WritesAlist n rows room (Err R.TooManyRows) room
    rows-over o = passed_first (length-good z h) (refused-first (o, refl))

    module _ (few : length rows ≤ 64) where
      pub row-beyond : {b : ℕ} → position (λ row. leb (2 ^ n) row) rows ≡ Some b → WritesAlist n rows room (Err (R.RowBeyond b)) room
      row-beyond {b} e =
          let f = position-Some (λ row. leb (2 ^ n) row) rows b 0 e in
          passed_first (length-good z h) (passed_first (λ p o. omega (arith, few, o.0))
          (refused-first (record { row = b; there = f.0; over = leb-true (2 ^ n) _ f.1; first = λ j l. leb-false (2 ^ n) _ (f.2 j l); is = refl })))

      module _ (below : (j : ℕ) → j < length rows → get_or rows j 0 < 2 ^ n) where
        rows-good : (p : Refusal) → RowOver n rows p → ⊥
        rows-good p o = let l = below o.row o.there in let v = o.over in omega (arith, l, v)

        pub without-rows : length rows ≡ 0 → WritesAlist n rows room (Err (R.AlistFault 0)) room
        without-rows e =
            passed_first (length-good z h) (passed_first (λ p o. omega (arith, few, o.0)) (passed_first rows-good (refused-first (e, refl))))

        module _ (some : length rows ≡ 0 → ⊥) where
          pub as_line : {r : Result ℕ Refusal} {room' : List ℕ} → WritesLine (alist_text n rows) room r room' → WritesAlist n rows room r room'
          as_line w =
              passed_first (length-good z h) (passed_first (λ p o. omega (arith, few, o.0)) (passed_first rows-good (passed_first (λ p o. some o.0) w)))

-- a text put at the start of a room that is long enough
pub put-fits : {text room room' scratch scratch' : List ℕ} {size r : ℕ} → Puts scratch 0 text scratch' size → size ≤ length room → Puts room 0 text room' r
    → WritesLine text room (Ok size) room'
put-fits {text} {room} {room'} {scratch} {scratch'} {size} {r} m h p =
    let e : size ≡ length text = m.next ∙ omega arith in
    let z : 0 + length text ≡ length text = omega arith in
    let s : sets room 0 text ≡ text ++ drop (0 + length text) room = sets-eq text room 0 (omega (arith, e, h)) in
    rw (e, p.stands, s, z) (fits-room text room (omega (arith, e, h)))

pub put-short : {text room scratch scratch' : List ℕ} {size : ℕ} → Puts scratch 0 text scratch' size → length room < size
    → WritesLine text room (Err R.LineRoom) room
put-short {text} {room} {size = size} m h = let e = m.next in too_long text room (omega (arith, e, h))
