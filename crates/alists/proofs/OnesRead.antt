-- The indices of a list one by one.
use borrow.Author.Tests.{eqb-false, eqb-true, leb-true}
use lib.Dec.{eqb, leb}
use lib.ListN.{drop, get_or, length}
use lib.Pow.{shl_exact}
use mathlib.Core.Bool.{Bool, cond, false, true}
use mathlib.Core.List.{List}
use mathlib.Core.Path.{◌≡◌, refl, ◌∙◌}
use native.Mathlib.Nat.{pow-suc}
use native.Mathlib.Omega.{arith}
use Prim.Native.Nat.{◌%◌, ◌*◌, ◌+◌, ◌-◌, ◌/◌, ◌<◌, ◌^◌, suc, zero, ℕ, ◌≤◌}
use Rattle.alists.proofs.Places.{done, here}
use Rattle.alists.specs.Reading.{fits, ones_of, word, wrong}
use Rattle.words.specs.Word.{bit}

module _ (size used : ℕ) (xs : List ℕ) (i : ℕ) where
  pub ones-end : length xs ≤ i → ones_of size used (drop i xs) ≡ word used
  ones-end h = rw (done xs i h)

  pub ones-other : i < length xs → fits size used (get_or xs i 0) ≡ false → ones_of size used (drop i xs) ≡ wrong
  ones-other h e = rw (here xs i h, e)

  pub ones-here : i < length xs → fits size used (get_or xs i 0) ≡ true
      → ones_of size used (drop i xs) ≡ ones_of size (used + 2 ^ (get_or xs i 0 - 1)) (drop (i + 1) xs)
  ones-here h e = rw (here xs i h, e)

-- an index that fits
pub record Fits (size used x : ℕ) : Type 0 where
  pub low : 1 ≤ x
  pub high : x ≤ size
  pub new : bit used (x - 1) ≡ 0

last-case : (size used x : ℕ) (t : Bool) → leb x size ≡ t → 1 ≤ x → cond t (eqb (bit used (x - 1)) 0) false ≡ true → Fits size used x
last-case size used x true e l p = record { low = l; high = leb-true x size e; new = eqb-true (bit used (x - 1)) 0 p }
last-case size used x false e l p = absurd (let z : ◌≡◌ {A = ℕ} 0 1 = cc in omega arith)

first-case : (size used x : ℕ) (t : Bool) → eqb x 0 ≡ t → cond t false (cond (leb x size) (eqb (bit used (x - 1)) 0) false) ≡ true → Fits size used x
first-case size used x true e p = absurd (let z : ◌≡◌ {A = ℕ} 0 1 = cc in omega arith)
first-case size used x false e p = last-case size used x (leb x size) refl (omega (arith, eqb-false x 0 e)) p

pub index-fits : (size used x : ℕ) → fits size used x ≡ true → Fits size used x
index-fits size used x p = first-case size used x (eqb x 0) refl p

-- a one more stays below the power of 2
pub one_more : (p k u : ℕ) → p < k → u < 2 ^ k → bit u p ≡ 0 → u + 2 ^ p < 2 ^ k
one_more p zero u h l e = absurd (omega arith)
one_more zero (suc k) u h l e =
    let a : u < 2 ^ k * 2 = rw pow-suc at l in
    let b : u % 2 ≡ 0 = e in
    rw pow-suc (omega arith)
one_more (suc p) (suc k) u h l e =
    let a : u < 2 ^ k * 2 = rw pow-suc at l in
    let r = one_more p k (u / 2) (omega arith) (omega arith) e in
    let g : 2 ^ suc p ≡ 2 ^ p * 2 = pow-suc 2 p in
    rw pow-suc (omega (arith, g, r))

-- 1 shifted
pub shifted_one : (i : ℕ) → i < 64 → 1 * 2 ^ i % 2 ^ 64 ≡ 2 ^ i
shifted_one i h = shl_exact 1 i 64 (omega arith) (omega arith) ∙ omega arith
