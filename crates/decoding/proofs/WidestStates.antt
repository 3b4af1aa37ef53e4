-- The largest profile entry is at least every entry and at most 12, and what the rooms need follows from it.
use lib.ListN.{get_or}
use mathlib.Core.List.{List}
use mathlib.Core.Logic.{inl, inr, ◌⊎◌}
use mathlib.Core.Path.{subst, sym, ◌≡◌}
use native.Mathlib.Nat.{le_refl}
use native.Mathlib.Omega.{arith}
use Prim.Native.Nat.{max, ◌<◌, suc, zero, zero-le, ℕ, ◌≤◌}
use Rattle.decoding.specs.Needs.{ProfileFits, widest_entry}
use Rattle.words.proofs.Span.{lt-tri}

pub widest-least : (profile : List ℕ) (n t : ℕ) → t ≤ n → get_or profile t 0 ≤ widest_entry profile n
widest-least profile zero t h = let e : t ≡ 0 = omega arith in subst (λ (x : ℕ). get_or profile x 0 ≤ get_or profile 0 0) (sym e) (le_refl _)
widest-least profile (suc n) t h = go (widest-least profile n) (lt-tri t (suc n))
  where
    go : ((t : ℕ) → t ≤ n → get_or profile t 0 ≤ widest_entry profile n) → (t < suc n) ⊎ ((t ≡ suc n) ⊎ (suc n < t)) → get_or profile t 0 ≤ max (get_or profile (suc n) 0) (widest_entry profile n)
    go ih (inl l) = omega (arith, ih t (omega arith))
    go ih (inr (inl e)) = subst (λ (x : ℕ). get_or profile x 0 ≤ max (get_or profile (suc n) 0) (widest_entry profile n)) (sym e) (omega arith)
    go ih (inr (inr l)) = absurd (omega arith)

pub widest-most : (profile : List ℕ) (n : ℕ) → ProfileFits profile n → widest_entry profile n ≤ 12
widest-most profile zero f = f 0 zero-le
widest-most profile (suc n) f = omega (arith, f (suc n) (le_refl (suc n)), widest-most profile n (λ t h. f t (omega arith)))
