-- The list of a word as a table holds it, and how large its numbers are.
use lib.Dec.{eqb}
use lib.ListN.{drop, get_or, length, length-replicate, replicate, take}
use lib.Seq.{sets, sets-eq}
use mathlib.Core.Bool.{Bool, cond, false, true}
use mathlib.Core.List.{◌++◌, List, [], map, ◌∷◌}
use mathlib.Core.Path.{◌≡◌, ap, refl}
use native.Mathlib.Omega.{arith}
use Prim.Native.Nat.{◌+◌, ◌-◌, ◌<◌, suc, zero, ℕ, ◌≤◌}
use Rattle.alists.specs.Lists.{indices, largest, list_of, ones_from, padded, weight}
use Rattle.alists.specs.Working.{Small}
use Rattle.words.specs.Word.{bit}

-- ---- a word has at most 64 ones

few-case : (k : ℕ) (x : ℕ) (xs : List ℕ) (t : Bool) → length xs ≤ k → length (cond t (x ∷ xs) xs) ≤ suc k
few-case k x xs true h = omega arith
few-case k x xs false h = omega arith

pub ones-few : (w p k : ℕ) → length (ones_from w p k) ≤ k
ones-few w p zero = omega arith
ones-few w p (suc k) = few-case k (suc p) (ones_from w (suc p) k) (eqb (bit w p) 1) (ones-few w (suc p) k)

pub indices-few : (w : ℕ) → length (indices w) ≤ 64
unfolding indices
indices-few w = ones-few w 0 64

pub weight-few : (w : ℕ) → weight w ≤ 64
unfolding weight
weight-few w = indices-few w

pub largest-few : (ws : List ℕ) → largest (map weight ws) ≤ 64
largest-few [] = omega arith
largest-few (w ∷ ws) = let a = weight-few w in let b = largest-few ws in omega (arith, a, b)

-- ---- the table

pub drop-zeros : (n k : ℕ) → drop {A = ℕ} n (replicate k 0) ≡ replicate (k - n) 0
drop-zeros zero k = let e : k - 0 ≡ k = omega arith in rw e
drop-zeros (suc n) zero = let e : 0 - suc n ≡ 0 = omega arith in rw e
drop-zeros (suc n) (suc k) = let e : suc k - suc n ≡ k - n = omega arith in rw e (drop-zeros n k)

padded-take : (most : ℕ) (xs : List ℕ) (k : ℕ) → most ≤ length xs + k → take most (xs ++ replicate k 0) ≡ padded most xs
padded-take zero xs k h = refl
padded-take (suc most) [] zero h = absurd (omega arith)
padded-take (suc most) [] (suc k) h = ap (λ (r : List ℕ). 0 ∷ r) (padded-take most [] k (omega arith))
padded-take (suc most) (x ∷ xs) k h = ap (λ (r : List ℕ). x ∷ r) (padded-take most xs k (omega arith))

-- what the table holds is the list
pub list-taken : (most w : ℕ) → most ≤ 64 → take most (sets (replicate 64 0) 0 (indices w)) ≡ list_of most w
list-taken most w h =
    let f = indices-few w in
    let e : sets (replicate 64 0) 0 (indices w) ≡ indices w ++ drop (0 + length (indices w)) (replicate 64 0) =
    sets-eq (indices w) (replicate 64 0) 0 (omega (arith, f, length-replicate {A = ℕ} 64 0)) in
    let z : 0 + length (indices w) ≡ length (indices w) = omega arith in
    rw (e, z, drop-zeros) (padded-take most (indices w) (64 - length (indices w)) (omega (arith, f)))

-- ---- small numbers

one-small : (k p x : ℕ) (xs : List ℕ) (t : Bool) → x ≤ k → ((j : ℕ) → get_or xs j 0 ≤ k) → (j : ℕ) → get_or (cond t (x ∷ xs) xs) j 0 ≤ k
one-small k p x xs true a h zero = a
one-small k p x xs true a h (suc j) = h j
one-small k p x xs false a h j = h j

ones_small : (w p k j : ℕ) → get_or (ones_from w p k) j 0 ≤ p + k
ones_small w p zero j = omega arith
ones_small w p (suc k) j =
    let e : suc p + k ≡ p + suc k = omega arith in
    one-small (p + suc k) p (suc p) (ones_from w (suc p) k) (eqb (bit w p) 1) (omega arith) (λ i. rw e at (ones_small w (suc p) k i)) j

padded-small : (most : ℕ) (xs : List ℕ) → ((j : ℕ) → get_or xs j 0 ≤ 64) → (j : ℕ) → get_or (padded most xs) j 0 < 100
padded-small zero xs h j = omega arith
padded-small (suc most) [] h zero = omega arith
padded-small (suc most) [] h (suc j) = padded-small most [] h j
padded-small (suc most) (x ∷ xs) h zero = let a = h 0 in omega (arith, a)
padded-small (suc most) (x ∷ xs) h (suc j) = padded-small most xs (λ i. h (suc i)) j

pub list-small : (most w : ℕ) → Small (list_of most w)
unfolding indices
list-small most w = record { below = padded-small most (ones_from w 0 64) (λ j. ones_small w 0 64 j) }

pub pair_small : (a b : ℕ) → a ≤ 64 → b ≤ 64 → Small (a ∷ b ∷ [])
pair_small a b h k = record { below = go }
  where
    go : (j : ℕ) → get_or (a ∷ b ∷ []) j 0 < 100
    go zero = omega (arith, h)
    go (suc zero) = omega (arith, k)
    go (suc (suc j)) = omega arith

pub weights-small : (ws : List ℕ) → Small (map weight ws)
weights-small ws = record { below = go ws }
  where
    go : (ws : List ℕ) (j : ℕ) → get_or (map weight ws) j 0 < 100
    go [] j = omega arith
    go (w ∷ ws) zero = let a = weight-few w in omega (arith, a)
    go (w ∷ ws) (suc j) = go ws j
