-- Sums modulo 2 of rows: they are linear, and rows that are sums of other rows generate no more.
use lib.Bits.{bit_xor, differ, xor_zero_r}
use lib.ListN.{get_or, length}
use mathlib.Core.List.{List, [], ◌∷◌}
use mathlib.Core.Logic.{inl, inr, ◌⊎◌}
use mathlib.Core.Path.{ap, ap₂, refl, subst, sym, ◌∙◌, ◌≡◌}
use native.Mathlib.Omega.{arith}
use Prim.Native.Nat.{◌%◌, ◌*◌, ◌+◌, ◌/◌, ◌<◌, suc, suc-le-suc, zero, zero-le, ℕ}
use Rattle.words.proofs.Word.{bit-xor, bit-zero, xor-four, xor-half, xor-odd, xor_self}
use Rattle.words.specs.Sum.{IsSum, sum_of, taken}
use Rattle.words.specs.Word.{bit}

taken-differ : (d e r : ℕ) → d < 2 → e < 2 → taken (differ d e) r ≡ bit_xor (taken d r) (taken e r)
taken-differ zero e r hd he = refl
taken-differ (suc zero) zero r hd he = sym (xor_zero_r r)
taken-differ (suc zero) (suc zero) r hd he = sym (xor_self r)
taken-differ (suc zero) (suc (suc e)) r hd he = absurd (omega arith)
taken-differ (suc (suc d)) e r hd he = absurd (omega arith)

pub sum-zero : (rows : List ℕ) → sum_of rows 0 ≡ 0
sum-zero [] = refl
sum-zero (r ∷ rs) = sum-zero rs

-- linear
pub sum-xor : (rows : List ℕ) (u v : ℕ) → sum_of rows (bit_xor u v) ≡ bit_xor (sum_of rows u) (sum_of rows v)
sum-xor [] u v = refl
sum-xor (r ∷ rs) u v =
    ap₂ (λ (x y : ℕ). bit_xor (taken x r) (sum_of rs y)) (xor-odd u v) (xor-half u v)
    ∙ ap₂ bit_xor (taken-differ (u % 2) (v % 2) r (omega arith) (omega arith)) (sum-xor rs (u / 2) (v / 2))
    ∙ xor-four (taken (u % 2) r) (taken (v % 2) r) (sum_of rs (u / 2)) (sum_of rs (v / 2))

-- the code is closed under sums
pub in-zero : (rows : List ℕ) → IsSum rows 0
in-zero rows = record { by = 0; sum = sum-zero rows }

pub in-xor : {rows : List ℕ} {a b : ℕ} → IsSum rows a → IsSum rows b → IsSum rows (bit_xor a b)
in-xor {rows} p q = record { by = bit_xor p.by q.by; sum = sum-xor rows p.by q.by ∙ ap₂ bit_xor p.sum q.sum }

-- 2 * u + d takes row 0 by d, and the others by u
pub sum-cons : (r : ℕ) (rs : List ℕ) (d u : ℕ) → d < 2 → sum_of (r ∷ rs) (2 * u + d) ≡ bit_xor (taken d r) (sum_of rs u)
sum-cons r rs d u h =
    let e : (2 * u + d) % 2 ≡ d = omega arith in
    let f : (2 * u + d) / 2 ≡ u = omega arith in
    ap₂ (λ (x y : ℕ). bit_xor (taken x r) (sum_of rs y)) e f

-- a sum of the later rows
pub in-cons : (r : ℕ) {rs : List ℕ} {w : ℕ} → IsSum rs w → IsSum (r ∷ rs) w
in-cons r {rs} g = record { by = 2 * g.by + 0; sum = sum-cons r rs 0 g.by (omega arith) ∙ g.sum }

-- each row is in the code, and so is the 0 past the last
pub in_row : (rows : List ℕ) (j : ℕ) → IsSum rows (get_or rows j 0)
in_row [] j = in-zero []
in_row (r ∷ rs) zero = record { by = 1; sum = ap (bit_xor r) (sum-zero rs) ∙ xor_zero_r r }
in_row (r ∷ rs) (suc j) = in-cons r (in_row rs j)

-- ---- rows that all lie in a code generate no more than that code
all_in : (rows gens : List ℕ) → ((j : ℕ) → j < length rows → IsSum gens (get_or rows j 0)) → (u : ℕ) → IsSum gens (sum_of rows u)
all_in [] gens h u = in-zero gens
all_in (r ∷ rs) gens h u =
    in-xor (one (u % 2)) (all_in rs gens (λ j l. h (suc j) (suc-le-suc l)) (u / 2))
  where
    one : (d : ℕ) → IsSum gens (taken d r)
    one zero = in-zero gens
    one (suc d) = h 0 (suc-le-suc zero-le)

pub in_all : (rows gens : List ℕ) → ((j : ℕ) → j < length rows → IsSum gens (get_or rows j 0)) → (w : ℕ) → IsSum rows w → IsSum gens w
in_all rows gens h w p = subst (IsSum gens) p.sum (all_in rows gens h p.by)

-- two sums agree at p where at each row they take alike, or the row has 0 there
pub sum-agree : (rows : List ℕ) (p u v : ℕ) → ((j : ℕ) → j < length rows → (bit (get_or rows j 0) p ≡ 0) ⊎ (bit u j ≡ bit v j)) → bit (sum_of rows u) p ≡ bit (sum_of rows v) p
sum-agree [] p u v h = refl
sum-agree (r ∷ rs) p u v h =
    bit-xor p (taken (u % 2) r) (sum_of rs (u / 2)) ∙ ap₂ differ (one (h 0 (suc-le-suc zero-le))) (sum-agree rs p (u / 2) (v / 2) (λ j l. h (suc j) (suc-le-suc l)))
    ∙ sym (bit-xor p (taken (v % 2) r) (sum_of rs (v / 2)))
  where
    zero-taken : bit r p ≡ 0 → (d : ℕ) → bit (taken d r) p ≡ 0
    zero-taken z zero = bit-zero p
    zero-taken z (suc d) = z

    one : (bit r p ≡ 0) ⊎ (u % 2 ≡ v % 2) → bit (taken (u % 2) r) p ≡ bit (taken (v % 2) r) p
    one (inl z) = zero-taken z (u % 2) ∙ sym (zero-taken z (v % 2))
    one (inr e) = ap (λ (d : ℕ). bit (taken d r) p) e

-- a position where every row has 0 has 0 in every sum
pub all-zero : (rows : List ℕ) (p : ℕ) → ((j : ℕ) → j < length rows → bit (get_or rows j 0) p ≡ 0) → (u : ℕ) → bit (sum_of rows u) p ≡ 0
all-zero [] p h u = bit-zero p
all-zero (r ∷ rs) p h u =
    bit-xor p (taken (u % 2) r) (sum_of rs (u / 2)) ∙ ap₂ differ (one (u % 2)) (all-zero rs p (λ j l. h (suc j) (suc-le-suc l)) (u / 2))
  where
    one : (d : ℕ) → bit (taken d r) p ≡ 0
    one zero = bit-zero p
    one (suc d) = h 0 (suc-le-suc zero-le)
