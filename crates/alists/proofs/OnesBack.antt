-- The indices of a word are judged as that word.
use borrow.Author.Tests.{eq-eqb, le-leb, ne_eqb}
use lib.ListN.{get_or, length}
use mathlib.Core.Bool.{true}
use mathlib.Core.List.{List, [], map, ◌∷◌}
use mathlib.Core.Logic.{inl, inr, ◌⊎◌}
use mathlib.Core.Path.{◌≡◌, refl, sym, ◌∙◌}
use lib.Pow.{mod-pow-add, pow_pos}
use native.Mathlib.Nat.{lt_of_lt_of_le, mod-eq_of_lt, mod-lt, pow-le-pow_right}
use native.Mathlib.Omega.{arith}
use Prim.Native.Nat.{◌%◌, ◌*◌, ◌+◌, ◌-◌, ◌<◌, ◌^◌, suc, zero, ℕ, ◌≤◌}
use Rattle.alists.specs.Lists.{indices, largest, ones_from, padded, weight}
use Rattle.alists.specs.Reading.{fits, ones_of, word, zeros_only}
use Rattle.words.proofs.Ends.{one-before}
use Rattle.words.proofs.Word.{bit-cases, bit-div, bits_below}
use Rattle.words.specs.Word.{bit}

-- ---- padding

pub zeros-padded : (most : ℕ) → zeros_only (padded most []) ≡ true
zeros-padded zero = refl
zeros-padded (suc most) = zeros-padded most

-- ---- indices

-- the positions of a word below p, and one more
pub low-on : (w p : ℕ) → w % 2 ^ suc p ≡ bit w p * 2 ^ p + w % 2 ^ p
low-on w p =
    let e : 1 + p ≡ suc p = omega arith in
    let m = rw e at (mod-pow-add w 1 p) in
    rw (bit-div p w) m

-- the index of a one fits
one-fits : (size w p : ℕ) → w < 2 ^ size → bit w p ≡ 1 → fits size (w % 2 ^ p) (suc p) ≡ true
one-fits size w p h b =
    let l = one-before size w p h b in
    let e : suc p - 1 ≡ p = omega arith in
    let z : bit (w % 2 ^ p) p ≡ 0 = bits_below p (w % 2 ^ p) (mod-lt w (pow_pos p)) p (omega arith) in
    rw (ne_eqb (suc p) 0 (λ f. omega (arith, f)), le-leb (suc p) size (omega (arith, l)), e, z)

ones-back : (size w : ℕ) → w < 2 ^ size → (p k : ℕ) → ones_of size (w % 2 ^ p) (ones_from w p k) ≡ word (w % 2 ^ (p + k))
ones-back size w h p zero = let e : p + 0 ≡ p = omega arith in rw e
ones-back size w h p (suc k) = go (ones-back size w h (suc p) k) (bit-cases w p)
  where
    go : ones_of size (w % 2 ^ suc p) (ones_from w (suc p) k) ≡ word (w % 2 ^ (suc p + k)) → (bit w p ≡ 0) ⊎ (bit w p ≡ 1)
        → ones_of size (w % 2 ^ p) (ones_from w p (suc k)) ≡ word (w % 2 ^ (p + suc k))
    go r (inl b) =
        let e : p + suc k ≡ suc p + k = omega arith in
        let m : w % 2 ^ suc p ≡ w % 2 ^ p = low-on w p ∙ rw b (omega arith) in
        rw (ne_eqb (bit w p) 1 (λ f. omega (arith, f, b)), ← m, e) r
    go r (inr b) =
        let e : p + suc k ≡ suc p + k = omega arith in
        let m : w % 2 ^ p + 2 ^ p ≡ w % 2 ^ suc p = sym (low-on w p ∙ rw b (omega arith)) in
        let d : suc p - 1 ≡ p = omega arith in
        rw (eq-eqb (bit w p) 1 b, one-fits size w p h b, d, m, e) r

indices-among : (size w k : ℕ) → size ≤ k → w < 2 ^ size → ones_of size 0 (ones_from w 0 k) ≡ word w
indices-among size w k j h =
    let l : w < 2 ^ k = lt_of_lt_of_le h (pow-le-pow_right (omega arith) j) in
    let z : w % 2 ^ 0 ≡ 0 = omega arith in
    let y : 0 + k ≡ k = omega arith in
    let e : w % 2 ^ k ≡ w = mod-eq_of_lt l in
    rw (z, y, e) at (ones-back size w h 0 k)

pub indices-back : (size w : ℕ) → size ≤ 64 → w < 2 ^ size → ones_of size 0 (indices w) ≡ word w
unfolding indices
indices-back size w k h = indices-among size w 64 k h

-- ---- weights

-- beyond its size a word has no ones, and before it at most one a position
few_ones : (size w : ℕ) → w < 2 ^ size → (p k : ℕ) → length (ones_from w p k) ≤ size - p
few_ones size w h p zero = omega arith
few_ones size w h p (suc k) = go (few_ones size w h (suc p) k) (bit-cases w p)
  where
    go : length (ones_from w (suc p) k) ≤ size - suc p → (bit w p ≡ 0) ⊎ (bit w p ≡ 1) → length (ones_from w p (suc k)) ≤ size - p
    go r (inl b) = rw (ne_eqb (bit w p) 1 (λ f. omega (arith, f, b))) (omega (arith, r))
    go r (inr b) = let l = one-before size w p h b in rw (eq-eqb (bit w p) 1 b) (omega (arith, l, r))

few-among : (size w : ℕ) → w < 2 ^ size → (k : ℕ) → length (ones_from w 0 k) ≤ size
few-among size w h k = let r = few_ones size w h 0 k in omega (arith, r)

pub weight-most : (size w : ℕ) → w < 2 ^ size → weight w ≤ size
unfolding weight indices
weight-most size w h = few-among size w h 64

pub largest-most : (ws : List ℕ) (most : ℕ) → ((j : ℕ) → j < length ws → weight (get_or ws j 0) ≤ most) → largest (map weight ws) ≤ most
largest-most [] most f = omega arith
largest-most (w ∷ ws) most f =
    let a = f 0 (omega arith) in
    let b = largest-most ws most (λ j h. f (suc j) (omega (arith, h))) in
    omega (arith, a, b)
