-- A greater value never gets a lower level, and negating a value negates its level.
use Prim.Native.Nat.{ℕ, zero, suc, ◌≤◌, ◌<◌}
use lib.Dec.{T, le→leb, lit≤}
use lib.Ieee.{Float, binary32, fin, fits, inf, is_nan, le, lt, nan, neg}
use lib.IntN.{ℤ, pos, neg_ℤ, neg_ℤ-neg_ℤ}
use lib.Signed.{◌≤ℤ◌}
use mathlib.Core.Bool.{Bool, true, false}
use mathlib.Core.Logic.{◌⊎◌, inl, inr}
use mathlib.Core.Path.{◌≡◌, ap, refl, subst, sym, ◌∙◌}
use native.Mathlib.Decide.{dec_lt}
use native.Mathlib.Nat as N
use native.Mathlib.Omega.{arith}
use Rattle.levels.proofs.FloatOrder.{le_trans, neg-neg, negated-more, never-both-signs, not_negative, turned}
use Rattle.levels.proofs.LevelsDetermined.{largest-once}
use Rattle.levels.proofs.Narrowing.{good-positive}
use Rattle.levels.proofs.Products.{times_above}
use Rattle.levels.specs.declared.Setting.{Setting}
use Rattle.levels.specs.Choosing.{Largest, LevelOf, nought, times}
use Rattle.levels.specs.Giving.{Good}

-- ---- the two signs

-- the negation of a value of zero or more is at most zero
zero-turned : (v : Float) → T (le nought v) → T (le (neg v) nought)
zero-turned v h = le_trans (neg v) (neg nought) nought (turned nought v h) minus-zero
  where
    minus-zero : T (le (neg nought) nought)
    minus-zero = unfold le neg in tt

-- a number is negative, or zero or more
pub either-sign : (value : Float) → (T (is_nan value) → ⊥) → T (lt value nought) ⊎ T (le nought value)
either-sign value n = go (lt value nought) refl
  where
    go : (b : Bool) → lt value nought ≡ b → T (lt value nought) ⊎ T (le nought value)
    go true e = inl (subst T (sym e) tt)
    go false e = inr (not_negative value n e)

-- what is compared is a number
lower-number : (v w : Float) → T (le v w) → T (is_nan v) → ⊥
unfolding le is_nan
lower-number nan w h n = h
lower-number (inf s) w h n = n
lower-number (fin s m e) w h n = n

upper-number : (v w : Float) → T (le v w) → T (is_nan w) → ⊥
unfolding le is_nan
upper-number nan w h n = h
upper-number (inf s) nan h n = h
upper-number (inf s) (inf t) h n = n
upper-number (inf s) (fin t k d) h n = n
upper-number (fin s m e) nan h n = h
upper-number (fin s m e) (inf t) h n = n
upper-number (fin s m e) (fin t k d) h n = n

-- the negation of a number is a number
negated-number : (v : Float) → (T (is_nan v) → ⊥) → T (is_nan (neg v)) → ⊥
unfolding neg is_nan
negated-number nan h n = h n
negated-number (inf s) h n = n
negated-number (fin s m e) h n = n

-- ---- levels in order

-- two levels, their negations, and one of each
more-order : {i j : ℕ} → i ≤ j → pos i ≤ℤ pos j
more-order {i} {j} h = record { le = le→leb i j h }

less-order : (i j : ℕ) → i ≤ j → neg_ℤ (pos j) ≤ℤ neg_ℤ (pos i)
less-order zero zero h = record { le = tt }
less-order (suc i) zero h = absurd (omega arith)
less-order zero (suc j) h = record { le = tt }
less-order (suc i) (suc j) h = record { le = le→leb i j (omega arith) }

across_order : (i j : ℕ) → neg_ℤ (pos i) ≤ℤ pos j
across_order zero j = record { le = le→leb 0 j (omega arith) }
across_order (suc i) j = record { le = tt }

-- from equal levels
both_at : {x y x' y' : ℤ} → x ≡ x' → y ≡ y' → x' ≤ℤ y' → x ≤ℤ y
both_at {x} {y} {x'} {y'} e f h = subst (λ (a : ℤ). a ≤ℤ y) (sym e) (subst (λ (b : ℤ). x' ≤ℤ b) (sym f) h)

module _ (setting : Setting) where
  -- of two values of zero or more
  largest-order : (v w : Float) (i j : ℕ) → T (le v w) → Largest setting v i → Largest setting w j → i ≤ j
  largest-order v w i j h a b = go (dec_lt j i)
    where
      go : Dec (j < i) → i ≤ j
      go (yes l) = absurd (b.largest i l a.within (le_trans (times i setting.step) v w a.reached h))
      go (no n) = omega arith

  -- a greater value never gets a lower level
  pub greater-value-no-lower-level : (v w : Float) (y z : ℤ) → T (le v w) → LevelOf setting v y → LevelOf setting w z → y ≤ℤ z
  greater-value-no-lower-level v w y z h a b = go (either-sign v (lower-number v w h)) (either-sign w (upper-number v w h))
    where
      go : T (lt v nought) ⊎ T (le nought v) → T (lt w nought) ⊎ T (le nought w) → y ≤ℤ z
      go (inl p) (inl q) =
          let x = a.negative p in
          let u = b.negative q in
          both_at x.1 u.1 (less-order b.size a.size (largest-order (neg w) (neg v) b.size a.size (turned v w h) u.0 x.0))
      go (inl p) (inr q) = both_at (a.negative p).1 (b.zero_or_more q).1 (across_order a.size b.size)
      go (inr p) (inl q) = absurd (never-both-signs w q (le_trans nought v w p h))
      go (inr p) (inr q) =
          let x = a.zero_or_more p in
          let u = b.zero_or_more q in
          both_at x.1 u.1 (more-order (largest-order v w a.size b.size h x.0 u.0))

  -- a step is an f32, which is above zero, so a zero of either sign gets level 0
  module _ (good : Good setting) (single : T (fits binary32 setting.step)) where
    -- no level above 0 times step is at most zero
    pub zero-reaches-none : (v : Float) (j : ℕ) → T (le v nought) → Largest setting v j → j ≡ 0
    zero-reaches-none v zero h a = refl
    zero-reaches-none v (suc j) h a =
        absurd (times_above (suc j) setting.step (omega arith) (N.le_trans a.within (N.le_trans good.most (lit≤ tt))) single (good-positive good)
        (le_trans (times (suc j) setting.step) v nought a.reached h))

    -- negating the value negates the level
    pub negated : (v : Float) (y z : ℤ) → (T (is_nan v) → ⊥) → LevelOf setting v y → LevelOf setting (neg v) z → z ≡ neg_ℤ y
    negated v y z n a b = go (either-sign v n) (either-sign (neg v) (negated-number v n))
      where
        go : T (lt v nought) ⊎ T (le nought v) → T (lt (neg v) nought) ⊎ T (le nought (neg v)) → z ≡ neg_ℤ y
        go (inl p) q =
            let x = a.negative p in
            let u = b.zero_or_more (negated-more v p) in
            u.1 ∙ ap pos (largest-once setting (neg v) b.size a.size u.0 x.0) ∙ sym (neg_ℤ-neg_ℤ (pos a.size)) ∙ sym (ap neg_ℤ x.1)
        go (inr p) (inl q) =
            let x = a.zero_or_more p in
            let u = b.negative q in
            let same : Largest setting v b.size = subst (λ (w : Float). Largest setting w b.size) (neg-neg v) u.0 in
            u.1 ∙ ap (λ (j : ℕ). neg_ℤ (pos j)) (largest-once setting v b.size a.size same x.0) ∙ sym (ap neg_ℤ x.1)
        go (inr p) (inr q) =
            let x = a.zero_or_more p in
            let u = b.zero_or_more q in
            u.1 ∙ ap pos (zero-reaches-none (neg v) b.size (zero-turned v p) u.0)
            ∙ sym (ap neg_ℤ (x.1 ∙ ap pos (zero-reaches-none v a.size (subst (λ (w : Float). T (le w nought)) (neg-neg v) (zero-turned (neg v) q)) x.0)))
