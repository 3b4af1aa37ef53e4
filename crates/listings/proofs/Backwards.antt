-- A list gone through from its end to its start: what stands from place i on is put.
use lib.ListN.{drop, drop_of_length-le, get_or, length}
use lib.Seq.{drop-cons}
use mathlib.Core.List.{List, [], map, ◌∷◌}
use mathlib.Core.Path.{ap, refl, ◌∙◌, ◌≡◌}
use native.Mathlib.Numerals.{add-one}
use native.Mathlib.Omega.{arith}
use Prim.Native.Nat.{◌+◌, ◌-◌, ◌<◌, max, suc, zero, ℕ, ◌≤◌}
use Rattle.listings.proofs.Prepending.{prepend-none, ◌▹◌}
use Rattle.listings.specs.Building.{Prepends}
use Rattle.listings.specs.Decimal.{decimal}
use Rattle.listings.specs.Lines.{following, largest, positions}
use Rattle.words.specs.Word.{bit}

-- one place back
pub drop-back : (xs : List ℕ) (i : ℕ) → 0 < i → i ≤ length xs → drop (i - 1) xs ≡ get_or xs (i - 1) 0 ∷ drop i xs
drop-back xs i h l =
    let e : suc (i - 1) ≡ i = omega arith in
    rw e at (drop-cons xs (i - 1) 0 (omega arith))

-- a text that grows by one byte for each place gone back
pub bytes_on : {d e f : List ℕ} {end at r : ℕ} (xs : List ℕ) (i : ℕ) → 0 < i → i ≤ length xs → Prepends d end (drop i xs) e at
    → Prepends e at (get_or xs (i - 1) 0 ∷ []) f r → Prepends d end (drop (i - 1) xs) f r
bytes_on xs i h l p q = rw (drop-back xs i h l) (p ▹ q)

-- the fields of a line, one for each place gone back
pub fields-on : {d e f : List ℕ} {end at r : ℕ} (xs : List ℕ) (i : ℕ) → 0 < i → i ≤ length xs → Prepends d end (following (map decimal (drop i xs))) e at
    → Prepends e at (9 ∷ decimal (get_or xs (i - 1) 0)) f r → Prepends d end (following (map decimal (drop (i - 1) xs))) f r
fields-on xs i h l p q = rw (drop-back xs i h l) (p ▹ q)

-- the largest of the entries from one on
pub largest-on : (xs : List ℕ) (i : ℕ) → i < length xs → largest (drop i xs) ≡ max (get_or xs i 0) (largest (drop (i + 1) xs))
largest-on xs i h = rw (add-one i) (ap largest (drop-cons xs i 0 h))

-- ---- the characters of a word

-- n positions are n characters
pub positions-length : (word p n : ℕ) → length (positions word p n) ≡ n
positions-length word p zero = refl
positions-length word p (suc n) = ap suc (positions-length word (suc p) n)

-- position i stands i places from the left
pub positions-at : (word p n i : ℕ) → i < n → get_or (positions word p n) i 0 ≡ 48 + bit word (p + i)
positions-at word p zero i h = elim h [ ]
positions-at word p (suc n) zero h = let e : p + 0 ≡ p = omega arith in rw e
positions-at word p (suc n) (suc i) h =
    let e : suc p + i ≡ p + suc i = omega arith in
    positions-at word (suc p) n i (omega arith) ∙ rw e

-- none are put yet
pub positions-start : (d : List ℕ) (end word n : ℕ) → Prepends d end (drop n (positions word 0 n)) d end
positions-start d end word n = rw (drop_of_length-le (positions word 0 n) {i = n} (omega (arith, positions-length word 0 n))) (prepend-none d end)

-- one position more
pub positions-on : {d e f : List ℕ} {end at r : ℕ} (word n i : ℕ) → 0 < i → i ≤ n → Prepends d end (drop i (positions word 0 n)) e at
    → Prepends e at ((48 + bit word (i - 1)) ∷ []) f r → Prepends d end (drop (i - 1) (positions word 0 n)) f r
positions-on {e = e} {f} {at = at} {r} word n i h l p q =
    let z : 0 + (i - 1) ≡ i - 1 = omega arith in
    let s : get_or (positions word 0 n) (i - 1) 0 ≡ 48 + bit word (i - 1) = positions-at word 0 n (i - 1) (omega arith) ∙ rw z in
    bytes_on (positions word 0 n) i h (omega (arith, positions-length word 0 n)) p (rw s q)
