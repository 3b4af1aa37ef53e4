-- A set of words has one dimension.
use lib.Bits.{bit_xor}
use lib.ListN.{length}
use lib.Pow.{pow-lt}
use mathlib.Core.List.{List, [], ◌∷◌}
use mathlib.Core.Path.{ap, ap₂, refl, subst, sym, ◌∙◌, ◌≡◌}
use native.Mathlib.Decide.{dec_lt}
use native.Mathlib.Nat.{pow-suc}
use native.Mathlib.Omega.{arith}
use Prim.Native.Nat.{◌%◌, ◌*◌, ◌+◌, ◌/◌, ◌<◌, ◌^◌, suc, suc-le-suc, zero, zero-le, ℕ, ◌≤◌}
use Rattle.plates.specs.Dimension.{Dimension}
use Rattle.words.proofs.Pigeonhole.{pigeonhole}
use Rattle.words.proofs.Word.{half}
use Rattle.words.specs.Sum.{IsSum, sum_of, taken}

-- the first k digits of a number
unfoldable pub trim : ℕ → ℕ → ℕ
trim zero u = 0
trim (suc k) u = trim k (u / 2) * 2 + u % 2

pub trim-lt : (k u : ℕ) → trim k u < 2 ^ k
unfolding trim
trim-lt zero u = suc-le-suc zero-le
trim-lt (suc k) u = omega (arith, trim-lt k (u / 2), pow-suc 2 k)

pub sum-trim : (rows : List ℕ) (u : ℕ) → sum_of rows (trim (length rows) u) ≡ sum_of rows u
unfolding trim
sum-trim [] u = refl
sum-trim (r ∷ rs) u =
    let e : (trim (length rs) (u / 2) * 2 + u % 2) % 2 ≡ u % 2 = omega arith in
    ap₂ (λ (x y : ℕ). bit_xor (taken x r) (sum_of rs y)) e (half (trim (length rs) (u / 2)) (u % 2) (omega arith)) ∙ ap (bit_xor (taken (u % 2) r)) (sum-trim rs (u / 2))

dim-le : (S : ℕ → Type 0) (d e : ℕ) → Dimension S d → Dimension S e → d ≤ e
dim-le S d e x y = go (dec_lt e d)
  where
    k : ℕ
    k = length y.basis

    in-y : (v : ℕ) → IsSum y.basis (sum_of x.basis v)
    in-y v = (y.spans (sum_of x.basis v)).1 ((x.spans (sum_of x.basis v)).0 (record { by = v; sum = refl }))

    F : ℕ → ℕ
    F v = trim (length y.basis) (in-y v).by

    word : (v : ℕ) → sum_of y.basis (F v) ≡ sum_of x.basis v
    word v = sum-trim y.basis (in-y v).by ∙ (in-y v).sum

    fits : 2 ^ d ≤ 2 ^ e
    fits =
        pigeonhole (2 ^ d) (2 ^ e) F (λ v h. subst (λ (z : ℕ). F v < 2 ^ z) y.size (trim-lt (length y.basis) (in-y v).by))
        (λ v w h g q. x.different v w h g (sym (word v) ∙ ap (sum_of y.basis) q ∙ word w))

    go : Dec (e < d) → d ≤ e
    go (no n) = omega arith
    go (yes b) = absurd (omega (arith, fits, pow-lt b))

pub one-dimension : (S : ℕ → Type 0) (d e : ℕ) → Dimension S d → Dimension S e → d ≡ e
one-dimension S d e x y = omega (arith, dim-le S d e x y, dim-le S e d y x)
