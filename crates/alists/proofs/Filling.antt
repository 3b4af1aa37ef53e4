-- Columns, lists and weights put into a table one by one.
use lib.Dec.{eqb}
use lib.ListN.{drop, get_or, length, set}
use lib.Seq.{sets}
use mathlib.Core.Bool.{Bool, false, true}
use mathlib.Core.List.{List, [], map, ◌∷◌}
use mathlib.Core.Path.{◌≡◌, refl}
use native.Mathlib.Nat.{lt_of_lt_of_le, mul-le-mul_right, pow-le-pow_right, pow-suc, suc-mul, zero-add}
use native.Mathlib.Numerals.{add-one}
use native.Mathlib.Omega.{arith}
use Prim.Native.Nat.{◌*◌, ◌+◌, ◌-◌, ◌<◌, ◌^◌, suc, ℕ, ◌≤◌}
use Rattle.alists.proofs.Places.{back, done, here}
use Rattle.alists.specs.Lists.{column, columns_from, indices, ones_from, weight}
use Rattle.alists.specs.Working.{PutsBy}
use Rattle.words.proofs.Word.{bit-lt}
use Rattle.words.specs.Word.{bit}

-- ---- a column

-- one digit more
pub grow : (w d i : ℕ) → w < 2 ^ i → d < 2 → w * 2 + d < 2 ^ suc i
grow w d i h k =
    let m : suc w * 2 ≤ 2 ^ i * 2 = mul-le-mul_right 2 h in
    let e : suc w * 2 ≡ w * 2 + 2 = suc-mul w 2 in
    rw pow-suc (omega arith)

-- a column has as many positions as there are rows
pub column-small : (rows : List ℕ) (i : ℕ) → column rows i < 2 ^ length rows
column-small [] i = omega arith
column-small (r ∷ rows) i = grow (column rows i) (bit r i) (length rows) (column-small rows i) (bit-lt i r)

pub column-room : (rows : List ℕ) (i d m : ℕ) → length rows < m → d < 2 → column rows i * 2 + d < 2 ^ m
column-room rows i d m h k = lt_of_lt_of_le (grow (column rows i) d (length rows) (column-small rows i) k) (pow-le-pow_right (omega arith) h)

pub column-back : (rows : List ℕ) (i j : ℕ) → 0 < j → j ≤ length rows
    → column (drop (j - 1) rows) i ≡ column (drop j rows) i * 2 + bit (get_or rows (j - 1) 0) i
column-back rows i j z h = rw (back rows j z h)

-- ---- into a table

module _ (table : List ℕ) where
  pub columns-on : (rows : List ℕ) (i n : ℕ) → i < n
      → sets table i (columns_from rows i (n - i)) ≡ sets (set table i (column rows i)) (i + 1) (columns_from rows (i + 1) (n - (i + 1)))
  columns-on rows i n h =
      let e : n - i ≡ suc (n - (i + 1)) = omega arith in
      rw (e, add-one)

  pub columns-start : (rows : List ℕ) (n : ℕ) → sets table 0 (columns_from rows 0 (n - 0)) ≡ sets table 0 (columns_from rows 0 n)
  columns-start rows n = let e : n - 0 ≡ n = omega arith in rw e

  pub columns-end : (rows : List ℕ) (i n : ℕ) → n ≤ i → sets table i (columns_from rows i (n - i)) ≡ table
  columns-end rows i n h = let e : n - i ≡ 0 = omega arith in rw e

  pub weights-on : (ws : List ℕ) (i : ℕ) → i < length ws
      → sets table i (map weight (drop i ws)) ≡ sets (set table i (weight (get_or ws i 0))) (i + 1) (map weight (drop (i + 1) ws))
  weights-on ws i h = rw (here ws i h, add-one)

  pub weights-end : (ws : List ℕ) (i : ℕ) → length ws ≤ i → sets table i (map weight (drop i ws)) ≡ table
  weights-end ws i h = rw (done ws i h)

-- ---- the ones of a word

-- the ones from position i on, put after `count` others, make up the list
pub record Listing (w : ℕ) (table : List ℕ) (count i : ℕ) (table₀ : List ℕ) : Type 0 where
  pub within : i ≤ 64
  pub few : count ≤ i
  pub stands : sets table count (ones_from w i (64 - i)) ≡ sets table₀ 0 (indices w)
  pub long : count + length (ones_from w i (64 - i)) ≡ weight w

pub listing_start : (w : ℕ) (table : List ℕ) → Listing w table 0 0 table
unfolding indices weight
listing_start w table = record { within = omega arith; few = omega arith; stands = refl; long = zero-add (length (ones_from w 0 64)) }

pub listing-on : {w : ℕ} {table : List ℕ} {count i : ℕ} {table₀ table' : List ℕ} {r : ℕ} (t : Bool) → eqb (bit w i) 1 ≡ t → i < 64
    → Listing w table count i table₀ → PutsBy t i table count table' r → Listing w table' r (i + 1) table₀
listing-on {w} {table} {count} {i} {table₀} {table'} {r} true e h l p =
    let k : 64 - i ≡ suc (64 - suc i) = omega arith in
    let s = rw (k, e) at l.stands in
    let n = rw (k, e) at l.long in
    record {
      within = omega arith;
      few = let f = l.few in rw p.1 (omega arith);
      stands = rw (p.0, p.1, add-one) s;
      long = rw (p.1, add-one) (omega (arith, n));
    }
listing-on {w} {table} {count} {i} {table₀} {table'} {r} false e h l p =
    let k : 64 - i ≡ suc (64 - suc i) = omega arith in
    let s = rw (k, e) at l.stands in
    let n = rw (k, e) at l.long in
    record {
      within = omega arith;
      few = let f = l.few in rw p.1 (omega arith);
      stands = rw (p.0, p.1, add-one) s;
      long = rw (p.1, add-one) n;
    }

pub listing-end : {w : ℕ} {table : List ℕ} {count i : ℕ} {table₀ : List ℕ} → 64 ≤ i → Listing w table count i table₀
    → (table ≡ sets table₀ 0 (indices w)) × (count ≡ weight w)
listing-end {w} {table} {count} {i} h l =
    let k : 64 - i ≡ 0 = omega arith in
    let n = rw k at l.long in
    (rw k at l.stands, omega (arith, n))
