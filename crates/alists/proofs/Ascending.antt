-- Indices that ascend are the ones of their word.
use borrow.Author.Tests.{eq-eqb, eqb-true, leb-true, lt-ltb, ltb-true, ne_eqb}
use lib.Dec.{eqb, leb, ltb}
use lib.ListN.{drop, length, take}
use lib.Pow.{pow_pos}
use mathlib.Core.Bool.{Bool, ◌&&◌, cond, false, true}
use mathlib.Core.List.{List, [], ◌∷◌}
use mathlib.Core.Logic.{inl, inr, ◌⊎◌}
use mathlib.Core.Path.{◌≡◌, ap, refl}
use native.Mathlib.Decide.{ℕ_discrete}
use native.Mathlib.Nat.{mod-eq_of_lt, mod-lt, pow-suc}
use native.Mathlib.Omega.{arith}
use Prim.Native.Nat.{◌%◌, ◌+◌, ◌-◌, ◌<◌, ◌^◌, suc, zero, zero-le, ℕ, ◌≤◌}
use Rattle.alists.proofs.NumbersFound.{both}
use Rattle.alists.proofs.OnesBack.{low-on}
use Rattle.alists.proofs.OnesRead.{index-fits, one_more}
use Rattle.alists.specs.Lists.{ones_from, padded}
use Rattle.alists.specs.OwnForm.{ascend_from}
use Rattle.alists.specs.Reading.{fits, ones_of, word, word_of, wrong, zeros_only}
use Rattle.words.proofs.Word.{bit-cases}
use Rattle.words.specs.Word.{bit}

-- ---- the first index

-- an index that fits, and the word of what follows it
pub record FirstIndex (size used x : ℕ) (xs : List ℕ) (w : ℕ) : Type 0 where
  pub fit : fits size used x ≡ true
  pub low : 1 ≤ x
  pub high : x ≤ size
  pub new : bit used (x - 1) ≡ 0
  pub others : ones_of size (used + 2 ^ (x - 1)) xs ≡ word w

pub first-index : (size used x : ℕ) (xs : List ℕ) (w : ℕ) → ones_of size used (x ∷ xs) ≡ word w → FirstIndex size used x xs w
first-index size used x xs w e = go (fits size used x) refl e
  where
    go : (t : Bool) → fits size used x ≡ t → cond t (ones_of size (used + 2 ^ (x - 1)) xs) wrong ≡ word w → FirstIndex size used x xs w
    go true f d = let i = index-fits size used x f in record { fit = f; low = i.low; high = i.high; new = i.new; others = d }
    go false f d = absurd (let z : ◌≡◌ {A = ℕ} 0 1 = cc in omega arith)

-- the word of indices up to a size is below its power of 2
pub ones_below : (size : ℕ) (xs : List ℕ) (used w : ℕ) → used < 2 ^ size → ones_of size used xs ≡ word w → w < 2 ^ size
ones_below size [] used w h e = let d : used ≡ w = cc in rw (← d) h
ones_below size (x ∷ xs) used w h e =
    let f = first-index size used x xs w e in
    let l = f.low in
    let m = f.high in
    ones_below size xs (used + 2 ^ (x - 1)) w (one_more (x - 1) size used (omega (arith, l, m)) h f.new) f.others

-- ---- ascending indices

-- an index above 0 is above the last, and those after it are above it
pub above : (last x : ℕ) (xs : List ℕ) → 1 ≤ x → ascend_from last (x ∷ xs) ≡ true → (last < x) × (ascend_from x xs ≡ true)
above last x xs h e =
    let d : (ltb last x && ascend_from x xs) ≡ true = rw (ne_eqb x 0 (λ z. omega (arith, z, h))) at e in
    let p = both (ltb last x) (ascend_from x xs) d in
    (ltb-true last x p.0, p.1)

-- the last position of a word modulo a power of 2
last_one : (w p used : ℕ) → used < 2 ^ p → w % 2 ^ suc p ≡ used + 2 ^ p → (bit w p ≡ 1) × (w % 2 ^ p ≡ used)
last_one w p used h e = go (bit-cases w p)
  where
    go : (bit w p ≡ 0) ⊎ (bit w p ≡ 1) → (bit w p ≡ 1) × (w % 2 ^ p ≡ used)
    go (inl b) =
        let l = mod-lt w (pow_pos p) in
        let m = rw b at (low-on w p) in
        absurd (omega (arith, l, m, e))
    go (inr b) = let m = rw b at (low-on w p) in (b, omega (arith, m, e))

last-zero : (w p used : ℕ) → used < 2 ^ p → w % 2 ^ suc p ≡ used → (bit w p ≡ 0) × (w % 2 ^ p ≡ used)
last-zero w p used h e = go (bit-cases w p)
  where
    go : (bit w p ≡ 0) ⊎ (bit w p ≡ 1) → (bit w p ≡ 0) × (w % 2 ^ p ≡ used)
    go (inl b) = let m = rw b at (low-on w p) in (b, omega (arith, m, e))
    go (inr b) = let m = rw b at (low-on w p) in absurd (omega (arith, m, e, h))

-- the ones of the word from a position on, where the word below it is what was used
abbrev Known : ℕ → ℕ → ℕ → ℕ → List ℕ → Type 0
Known w p k used xs = (xs ≡ ones_from w p k) × (w % 2 ^ p ≡ used)

known-one : (w p k used : ℕ) (xs : List ℕ) → used < 2 ^ p → Known w (suc p) k (used + 2 ^ p) xs → Known w p (suc k) used (suc p ∷ xs)
known-one w p k used xs h g =
    let b = last_one w p used h g.1 in
    (rw (eq-eqb (bit w p) 1 b.0, g.0), b.1)

known-zero : (w p k used : ℕ) (xs : List ℕ) → used < 2 ^ p → Known w (suc p) k used xs → Known w p (suc k) used xs
known-zero w p k used xs h g =
    let b = last-zero w p used h g.1 in
    let z = b.0 in
    (rw (ne_eqb (bit w p) 1 (λ f. omega (arith, f, z))) g.0, b.1)

double : (p used : ℕ) → used < 2 ^ p → (used < 2 ^ suc p) × (used + 2 ^ p < 2 ^ suc p)
double p used h = let e = pow-suc 2 p in (omega (arith, e, h), omega (arith, e, h))

-- the first index is the next position or a later one
known_on : (size w p k used x : ℕ) (xs : List ℕ) → used < 2 ^ p → ascend_from p (x ∷ xs) ≡ true → ones_of size used (x ∷ xs) ≡ word w
    → ((u : ℕ) (ys : List ℕ) → u < 2 ^ suc p → ascend_from (suc p) ys ≡ true → ones_of size u ys ≡ word w → Known w (suc p) k u ys)
    → Known w p (suc k) used (x ∷ xs)
known_on size w p k used x xs h a e on = go (ℕ_discrete x (suc p))
  where
    f : FirstIndex size used x xs w
    f = first-index size used x xs w e

    m : (p < x) × (ascend_from x xs ≡ true)
    m = above p x xs f.low a

    go : Dec (x ≡ suc p) → Known w p (suc k) used (x ∷ xs)
    go (yes q) =
        let z : suc p - 1 ≡ p = omega arith in
        let o = rw (q, z) at f.others in
        rw q (known-one w p k used xs h (on (used + 2 ^ p) xs (double p used h).1 (rw q at m.1) o))
    go (no q) = known-zero w p k used (x ∷ xs) h (on used (x ∷ xs) (double p used h).0 later e)
      where
        later : ascend_from (suc p) (x ∷ xs) ≡ true
        later =
            let l = f.low in
            let b = m.0 in
            rw (ne_eqb x 0 (λ z. omega (arith, z, l)), lt-ltb (suc p) x (omega (arith, q, b))) m.1

pub ones-known : (size w p k used : ℕ) (xs : List ℕ) → size ≤ p + k → used < 2 ^ p → ascend_from p xs ≡ true → ones_of size used xs ≡ word w
    → Known w p k used xs
ones-known size w p zero used [] s h a e = let d : used ≡ w = cc in (refl, rw (← d) (mod-eq_of_lt h))
ones-known size w p zero used (x ∷ xs) s h a e =
    let f = first-index size used x xs w e in
    let l = f.high in
    let m = (above p x xs f.low a).0 in
    absurd (omega (arith, l, m, s))
ones-known size w p (suc k) used [] s h a e =
    known-zero w p k used [] h (ones-known size w (suc p) k used [] (omega arith) (double p used h).0 refl e)
ones-known size w p (suc k) used (x ∷ xs) s h a e = known_on size w p k used x xs h a e (λ u ys. ones-known size w (suc p) k u ys (omega arith))

-- ---- a list

-- zeros behind the first numbers pad them
pub padded-known : (k : ℕ) (xs : List ℕ) → k ≤ length xs → zeros_only (drop k xs) ≡ true → padded (length xs) (take k xs) ≡ xs
padded-known zero [] h z = refl
padded-known zero (x ∷ xs) h z = go (eqb x 0) refl z (padded-known zero xs zero-le)
  where
    go : (t : Bool) → eqb x 0 ≡ t → (t && zeros_only xs) ≡ true → (zeros_only xs ≡ true → padded (length xs) [] ≡ xs)
        → (0 ∷ padded (length xs) []) ≡ (x ∷ xs)
    go true q d r = let n = eqb-true x 0 q in rw (n, r d)
    go false q d r = absurd (let z : ◌≡◌ {A = ℕ} 0 1 = cc in omega arith)
padded-known (suc k) [] h z = absurd (omega arith)
padded-known (suc k) (x ∷ xs) h z = ap (λ (r : List ℕ). x ∷ r) (padded-known k xs (omega arith) z)

-- a list that is judged as a word has its weight in indices, then zeros
pub record OnesAre (size count : ℕ) (xs : List ℕ) (w : ℕ) : Type 0 where
  pub long : count ≤ length xs
  pub zeros : zeros_only (drop count xs) ≡ true
  pub ones : ones_of size 0 (take count xs) ≡ word w

pub word-judged : (size count : ℕ) (xs : List ℕ) (w : ℕ) → word_of size count xs ≡ word w → OnesAre size count xs w
word-judged size count xs w e = go (leb count (length xs)) refl (zeros_only (drop count xs)) refl e
  where
    go : (s : Bool) → leb count (length xs) ≡ s → (t : Bool) → zeros_only (drop count xs) ≡ t
        → cond s (cond t (ones_of size 0 (take count xs)) wrong) wrong ≡ word w → OnesAre size count xs w
    go true l true z d = record { long = leb-true count (length xs) l; zeros = z; ones = d }
    go true l false z d = absurd (let f : ◌≡◌ {A = ℕ} 0 1 = cc in omega arith)
    go false l t z d = absurd (let f : ◌≡◌ {A = ℕ} 0 1 = cc in omega arith)
