-- The pigeonhole: n different numbers below m are at most m.
use mathlib.Core.Logic.{◌≢◌}
use mathlib.Core.Path.{sym, ◌∙◌, ◌≡◌}
use native.Mathlib.Decide.{ℕ_discrete}
use native.Mathlib.Omega.{arith}
use Prim.Native.Nat.{◌<◌, suc, suc-le-suc, zero, zero-le, ℕ, ◌≤◌}

-- y in the place of t
swap : (x t y : ℕ) → Dec (x ≡ t) → ℕ
swap x t y (yes e) = y
swap x t y (no d) = x

pub pigeonhole : (n m : ℕ) (F : ℕ → ℕ) → ((i : ℕ) → i < n → F i < m) → ((i j : ℕ) → i < n → j < n → F i ≡ F j → i ≡ j) → n ≤ m
unfolding swap
pigeonhole zero m F h a = zero-le
pigeonhole (suc n) zero F h a = absurd (omega (arith, h 0 (suc-le-suc zero-le)))
pigeonhole (suc n) (suc m) F h a = suc-le-suc (pigeonhole n m G (λ i l. below i l (ℕ_discrete (F i) m)) (λ i j l k. apart i j l k (ℕ_discrete (F i) m) (ℕ_discrete (F j) m)))
  where
    G : ℕ → ℕ
    G i = swap (F i) m (F n) (ℕ_discrete (F i) m)

    differs : (i : ℕ) → i < n → F i ≡ F n → ⊥
    differs i l e = omega (arith, a i n (omega arith) (omega arith) e)

    below : (i : ℕ) → i < n → (d : Dec (F i ≡ m)) → swap (F i) m (F n) d < m
    below i l (yes e) = let z : F n ≢ m = λ q. differs i l (e ∙ sym q) in omega (arith, h n (omega arith))
    below i l (no d) = omega (arith, h i (omega arith))

    apart : (i j : ℕ) → i < n → j < n → (d : Dec (F i ≡ m)) (e : Dec (F j ≡ m)) → swap (F i) m (F n) d ≡ swap (F j) m (F n) e → i ≡ j
    apart i j l k (yes p) (yes q) s = a i j (omega arith) (omega arith) (p ∙ sym q)
    apart i j l k (yes p) (no q) s = absurd (differs j k (sym s))
    apart i j l k (no p) (yes q) s = absurd (differs i l s)
    apart i j l k (no p) (no q) s = a i j (omega arith) (omega arith) s
