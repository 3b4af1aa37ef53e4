-- The order of ℤ: a sum keeps it, at most is less or equal, and what is added to one of two small numbers and taken from the other.
use borrow.Author.Tests.{le-ltb, lt-ltb, ltb-true}
use lib.Dec.{T, leb→le, le→leb, ltb, ltb→lt, lt→ltb}
use lib.IntN.{◌+ℤ◌, +ℤ_assoc, +ℤ_comm, +ℤ-neg_ℤ_cancel, nat_abs, negsuc, neg_ℤ, pos, sub_ℕ, ℤ}
use lib.Signed.{◌<ℤ◌, <ℤ_irrefl, <ℤ-≤ℤ_trans, le_z, lt_z, ◌≤ℤ◌, ≤ℤ_refl}
use mathlib.Core.Bool.{Bool, cond, false, true}
use mathlib.Core.Logic.{inl, inr, ◌⊎◌, ⊎_elim}
use mathlib.Core.Path.{ap, refl, subst, sym, ◌∙◌, ◌≡◌}
use native.Mathlib.Nat.{eq-or-lt_of_le}
use native.Mathlib.Omega.{arith}
use Prim.Native.Nat.{◌+◌, ◌-◌, ◌<◌, suc, zero, ℕ, ◌≤◌}

-- a difference of two naturals, by which is less
sub-lt : (a b : ℕ) → a < b → sub_ℕ a b ≡ negsuc (b - suc a)
sub-lt a b h = rw (lt-ltb a b h)

sub-ge : (a b : ℕ) → b ≤ a → sub_ℕ a b ≡ pos (a - b)
sub-ge a b h = rw (le-ltb a b h)

-- a < b says that b is a and one or more
witness : (a b : ℤ) → T (lt_z a b) → (n : ℕ) × (b ≡ a +ℤ pos (suc n))
witness (pos a) (pos b) h = (b - suc a, ap pos (omega (arith, ltb→lt a b h)))
witness (pos a) (negsuc b) h = absurd h
witness (negsuc a) (pos b) h = (a + b, sym (sub-ge (suc (a + b)) (suc a) (omega arith) ∙ ap pos (omega arith)))
witness (negsuc a) (negsuc b) h =
    let k : b < a = ltb→lt b a h in
    (a - suc b, sym (sub-lt (suc (a - suc b)) (suc a) (omega arith) ∙ ap negsuc (omega arith)))

above-pick : (a n : ℕ) (t : Bool) → ltb (suc n) (suc a) ≡ t → T (lt_z (negsuc a) (cond t (negsuc (suc a - suc (suc n))) (pos (suc n - suc a))))
above-pick a n true e = lt→ltb (suc a - suc (suc n)) a (omega (arith, ltb-true (suc n) (suc a) e))
above-pick a n false e = tt

above : (a : ℤ) (n : ℕ) → T (lt_z a (a +ℤ pos (suc n)))
above (pos a) n = lt→ltb a (a + suc n) (omega arith)
above (negsuc a) n = above-pick a n (ltb (suc n) (suc a)) refl

pub add-lt : (g : ℤ) {a b : ℤ} → a <ℤ b → (g +ℤ a) <ℤ (g +ℤ b)
add-lt g {a} {b} h =
    let w = witness a b h.lt in
    record { lt = subst (λ (z : ℤ). T (lt_z (g +ℤ a) z)) (+ℤ_assoc g a (pos (suc w.0)) ∙ ap (λ (z : ℤ). g +ℤ z) (sym w.1)) (above (g +ℤ a) w.0) }

-- at most is less or equal
le-cases : (a b : ℤ) → T (le_z a b) → (a <ℤ b) ⊎ (a ≡ b)
le-cases (pos a) (pos b) h =
    ⊎_elim (λ e. inr (ap pos e)) (λ l. inl (record { lt = lt→ltb a b l })) (eq-or-lt_of_le (leb→le a b h))
le-cases (pos a) (negsuc b) h = absurd h
le-cases (negsuc a) (pos b) h = inl (record { lt = tt })
le-cases (negsuc a) (negsuc b) h =
    ⊎_elim (λ e. inr (ap negsuc (sym e))) (λ l. inl (record { lt = lt→ltb b a l })) (eq-or-lt_of_le (leb→le b a h))

pub le-lt-or-eq : {a b : ℤ} → a ≤ℤ b → (a <ℤ b) ⊎ (a ≡ b)
le-lt-or-eq {a} {b} h = le-cases a b h.le

lt-le : (a b : ℤ) → T (lt_z a b) → T (le_z a b)
lt-le (pos a) (pos b) h = le→leb a b (omega (arith, ltb→lt a b h))
lt-le (pos a) (negsuc b) h = absurd h
lt-le (negsuc a) (pos b) h = tt
lt-le (negsuc a) (negsuc b) h = le→leb b a (omega (arith, ltb→lt b a h))

pub <ℤ-≤ℤ : {a b : ℤ} → a <ℤ b → a ≤ℤ b
<ℤ-≤ℤ {a} {b} h = record { le = lt-le a b h.lt }

pub ≤ℤ-antisym : {a b : ℤ} → a ≤ℤ b → b ≤ℤ a → a ≡ b
≤ℤ-antisym {a} {b} h k = go (le-lt-or-eq h)
  where
    go : (a <ℤ b) ⊎ (a ≡ b) → a ≡ b
    go (inl l) = absurd (<ℤ_irrefl (<ℤ-≤ℤ_trans l k))
    go (inr e) = e

pub ≤ℤ-trans : {a b c : ℤ} → a ≤ℤ b → b ≤ℤ c → a ≤ℤ c
≤ℤ-trans {a} {b} {c} h k = go (le-lt-or-eq h)
  where
    go : (a <ℤ b) ⊎ (a ≡ b) → a ≤ℤ c
    go (inl l) = <ℤ-≤ℤ (<ℤ-≤ℤ_trans l k)
    go (inr e) = subst (λ (z : ℤ). z ≤ℤ c) (sym e) k

-- the same added on the right of both, and taken away again
pub add-le : (g a b : ℤ) → a ≤ℤ b → (a +ℤ g) ≤ℤ (b +ℤ g)
add-le g a b h = go (le-lt-or-eq h)
  where
    go : (a <ℤ b) ⊎ (a ≡ b) → (a +ℤ g) ≤ℤ (b +ℤ g)
    go (inl l) =
        subst (λ (z : ℤ). z ≤ℤ (b +ℤ g)) (+ℤ_comm g a) (subst (λ (z : ℤ). (g +ℤ a) ≤ℤ z) (+ℤ_comm g b) (<ℤ-≤ℤ (add-lt g l)))
    go (inr e) = subst (λ (z : ℤ). (a +ℤ g) ≤ℤ (z +ℤ g)) e (≤ℤ_refl (a +ℤ g))

pub cancel-le : (g a b : ℤ) → (a +ℤ g) ≤ℤ (b +ℤ g) → a ≤ℤ b
cancel-le g a b h =
    subst (λ (z : ℤ). z ≤ℤ b) (+ℤ-neg_ℤ_cancel a g) (subst (λ (z : ℤ). (a +ℤ g +ℤ neg_ℤ g) ≤ℤ z) (+ℤ-neg_ℤ_cancel b g) (add-le (neg_ℤ g) (a +ℤ g) (b +ℤ g) h))

-- ---- what is added to one of two small numbers and taken from the other

over_zero : (x : ℤ) (n : ℕ) → nat_abs x < n → pos 0 <ℤ (x +ℤ pos n)
over_zero (pos a) n h = record { lt = lt→ltb 0 (a + n) (omega arith) }
over_zero (negsuc a) n h =
    subst (λ (z : ℤ). pos 0 <ℤ z) (sym (sub-ge n (suc a) (omega arith))) (record { lt = lt→ltb 0 (n - suc a) (omega arith) })

under-zero : (x : ℤ) (n : ℕ) → nat_abs x < n → (x +ℤ neg_ℤ (pos n)) <ℤ pos 0
under-zero x zero h = absurd (omega arith)
under-zero (pos a) (suc n) h = subst (λ (z : ℤ). z <ℤ pos 0) (sym (sub-lt a (suc n) (omega arith))) (record { lt = tt })
under-zero (negsuc a) (suc n) h = record { lt = tt }

pub far_apart : (x y : ℤ) (n : ℕ) → nat_abs x < n → nat_abs y < n → (x +ℤ pos n) ≤ℤ (y +ℤ neg_ℤ (pos n)) → ⊥
far_apart x y n hx hy k = <ℤ_irrefl (<ℤ-≤ℤ_trans (<ℤ-≤ℤ_trans (over_zero x n hx) k) (<ℤ-≤ℤ (under-zero y n hy)))
