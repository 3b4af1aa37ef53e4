-- What a section's states count: each the same, whatever the metrics.
use lib.IntN.{ℤ}
use lib.ListN.{length}
use lib.Pow.{pow_mono}
use mathlib.Core.Bool.{Bool, cond, false, true}
use mathlib.Core.List.{List, [], ◌∷◌}
use mathlib.Core.Path.{ap₂, refl, sym, ◌∙◌, ◌≡◌}
use native.Mathlib.Nat.{mul-le-mul_left, suc-mul}
use native.Mathlib.Omega.{arith}
use Prim.Native.Nat.{◌*◌, ◌+◌, ◌<◌, ◌^◌, suc, zero, ℕ, ◌≤◌}
use Rattle.decoding.specs.Backward.{best, counted}
use Rattle.decoding.specs.declared.Counts.{Counts}
use Rattle.decoding.specs.Taking.{at_state, counting, taking, taking_also}
use Rattle.trellises.specs.declared.Section.{Section}

module _ (c : Section) (y : ℤ) (old : ℕ → ℤ) where
  -- branches that leave a state
  additions-at : (i : ℕ) → (at_state c y old i).additions ≡ cond c.begins 2 1
  additions-at i = go c.begins
    where
      go : (b : Bool) → (cond b (taking_also c y old (taking c y old i) (i + 2 ^ c.live)) (taking c y old i)).additions ≡ cond b 2 1
      go true = refl
      go false = refl

  -- and the comparisons among them
  comparisons-at : (i : ℕ) → (at_state c y old i).comparisons ≡ cond c.begins 1 0
  comparisons-at i = go c.begins
    where
      go : (b : Bool) → (cond b (taking_also c y old (taking c y old i) (i + 2 ^ c.live)) (taking c y old i)).comparisons ≡ cond b 1 0
      go true = refl
      go false = refl

  pub counting-additions : (n : ℕ) (k : Counts) → (counting c y old n k).additions ≡ k.additions + n * cond c.begins 2 1
  counting-additions zero k = omega arith
  counting-additions (suc n) k = omega (arith, counting-additions n k, additions-at n, suc-mul n (cond c.begins 2 1))

  pub counting-comparisons : (n : ℕ) (k : Counts) → (counting c y old n k).comparisons ≡ k.comparisons + n * cond c.begins 1 0
  counting-comparisons zero k = omega arith
  counting-comparisons (suc n) k = omega (arith, counting-comparisons n k, comparisons-at n, suc-mul n (cond c.begins 1 0))

-- the counts do not depend on the metrics
pub counting-same : (c : Section) (y : ℤ) (old old' : ℕ → ℤ) (n : ℕ) (k : Counts) → counting c y old n k ≡ counting c y old' n k
counting-same c y old old' n k =
    ap₂ (λ (a b : ℕ). record { additions = a; comparisons = b }) (counting-additions c y old n k ∙ sym (counting-additions c y old' n k))
    (counting-comparisons c y old n k ∙ sym (counting-comparisons c y old' n k))

-- ---- the counts of a decode are small

module _ (sections : ℕ → Section) (n : ℕ) (narrow : (t : ℕ) → t < n → (sections t).live ≤ 12) where
  few-states : (t : ℕ) → t < n → 2 ^ (sections t).live ≤ 4096
  few-states t h = pow_mono (narrow t h)

  at_most : (b : Bool) (x y p q : ℕ) → p ≤ 2 → q ≤ 2 → x * cond b p q ≤ x + x
  at_most true x y p q hp hq = omega (arith, mul-le-mul_left x hp)
  at_most false x y p q hp hq = omega (arith, mul-le-mul_left x hq)

  pub counted-small : (ys : List ℤ) (t : ℕ) → t + length ys ≡ n
      → ((counted sections ys t).additions ≤ length ys * 8192) × ((counted sections ys t).comparisons ≤ length ys * 8192)
  counted-small [] t e = (omega arith, omega arith)
  counted-small (y ∷ ys) t e =
      let r = counted-small ys (suc t) (omega arith) in
      let f : 2 ^ (sections t).live ≤ 4096 = few-states t (omega arith) in (
        omega (
          arith,
          r.0,
          counting-additions (sections t) y (best sections ys (suc t)) (2 ^ (sections t).live) (counted sections ys (suc t)),
          at_most (sections t).begins (2 ^ (sections t).live) 0 2 1 (omega arith) (omega arith),
        ),
        omega (
          arith,
          r.1,
          counting-comparisons (sections t) y (best sections ys (suc t)) (2 ^ (sections t).live) (counted sections ys (suc t)),
          at_most (sections t).begins (2 ^ (sections t).live) 0 1 0 (omega arith) (omega arith),
        ),
      )
