-- The samples of a block line in their places by position: what the loop over the places keeps, and what a whole line leaves.
use Rattle.std.proofs.Common.{Ok}
use Prim.Native.Nat.{ℕ, ◌+◌, ◌≤◌, ◌<◌}
use borrow.Author.Tests.{le-ltb, lt-ltb}
use lib.IntN.{ℤ, pos}
use lib.ListN.{length, take, drop, get_or, set, length-set, drop_of_length-le}
use lib.Seq.{drop-cons}
use mathlib.Core.Bool.{Bool}
use mathlib.Core.List.{List}
use mathlib.Core.Path.{◌≡◌, refl, sym, ◌∙◌, ap}
use native.Mathlib.Numerals.{add-one}
use native.Mathlib.Omega.{arith}
use Rattle.sheets.specs.Room.{laid}
use Rattle.sheets.specs.Turning.{in_order}
use Rattle.sheets.specs.Blocks.{listed_in, block_line, placed}
use Rattle.sheets.specs.declared.Order.{Order}
use Rattle.sheets.proofs.Laying.{laid_from, laid-front, laid_none, laid_on}
use Rattle.sheets.proofs.BlockPlaces.{line-counts}

-- the first k values are in their places: with those left they are all
pub record Placing (vs room₀ room : List ℤ) (k : ℕ) : Type 0 where
  pub few : k ≤ length vs
  pub size : length room ≡ length room₀
  pub kept : laid_from k (drop k vs) room ≡ laid vs room₀

pub placing-start : (vs room : List ℤ) → Placing vs room room 0
placing-start vs room = record { few = omega arith; size = refl; kept = refl }

module _ {vs room₀ room : List ℤ} {k : ℕ} (i : Placing vs room₀ room k) where
  -- one value more
  pub placing-on : (v : ℤ) → k < length vs → v ≡ get_or vs k (pos 0) → Placing vs room₀ (set room k v) (k + 1)
  placing-on v h e = record {
    few = omega arith;
    size = simp length-set i.size;
    kept = rw (add-one k, laid_on k v, e, ← (drop-cons vs k (pos 0) h)) i.kept;
  }

  -- at the end all are in their places
  pub placing-end : length vs ≤ k → room ≡ laid vs room₀
  placing-end h = sym (laid_none k room) ∙ rw (drop_of_length-le vs h) at i.kept

module _ (heard : Bool) (order : Order) (fields : List (List ℕ)) (count : ℕ) (counted : block_line heard fields ≡ Ok count) (room : List ℤ) where
  abbrev values : List ℤ
  values = listed_in heard fields

  -- more than 64 are left out
  pub placed-long : 64 < count → room ≡ placed order values room
  placed-long h =
      let l : 64 < length values = omega (arith, line-counts heard fields count counted) in
      rw (lt-ltb 64 (length values) l)

  -- others were read into 64 places first, as listed
  pub placed-short : (zeros listed room' : List ℤ) → length zeros ≡ 64 → count ≤ 64 → listed ≡ laid values zeros → room' ≡ laid (in_order order (take count listed)) room
      → room' ≡ placed order values room
  placed-short zeros listed room' size h l e =
      let c = line-counts heard fields count counted in
      let f : length values ≤ 64 = omega arith in
      let t : take count listed ≡ values = ap (λ (k : ℕ). take k listed) (sym c) ∙ ap (take (length values)) l ∙ laid-front values zeros (omega arith) in
      rw (le-ltb 64 (length values) f) (e ∙ ap (λ (xs : List ℤ). laid (in_order order xs) room) t)
