-- Tests that antt computes, each with its law: what it shows where it passes.
use borrow.Author.Tests.{eq-eqb}
use lib.Dec.{T, eqb, eqb→eq, leb, leb→le, ltb, ltb→lt}
use lib.IntN.{negsuc, pos, ℤ}
use lib.ListN.{get_or}
use mathlib.Core.Bool.{◌&&◌, Bool, false, not, true, ◌||◌}
use mathlib.Core.List.{List, [], ◌∷◌}
use mathlib.Core.Logic.{inl, inr, ◌⊎◌}
use mathlib.Core.Path.{ap, ap₂, refl, subst, sym, ◌≡◌}
use native.Mathlib.Decide.{ℕ_discrete}
use native.Mathlib.Omega.{arith}
use Prim.Native.Nat.{◌<◌, suc, zero, ℕ, ◌≤◌}

-- a test for P
pub record Check (P : Type 0) : Type 0 where
  pub test : Bool
  pub law : T test → P

-- ---- of tests together

-- the first of two tests that both pass
pub left : (a b : Bool) → T (a && b) → T a
left true b t = tt
left false b t = t

-- the second
pub right : (a b : Bool) → T (a && b) → T b
right true b t = t
right false b t = absurd t

-- one of two tests passes
pub one_of : (a b : Bool) → T (a || b) → T a ⊎ T b
one_of true b t = inl tt
one_of false b t = inr t

-- a test for what follows from P
abbrev pub by : {P Q : Type 0} → (P → Q) → Check P → Check Q
by f p = record { test = p.test; law = λ t. f (p.law t) }

-- a test for both
abbrev pub both : {P Q : Type 0} → Check P → Check Q → Check (P × Q)
both p q = record { test = p.test && q.test; law = λ t. (p.law (left p.test q.test t), q.law (right p.test q.test t)) }

-- a test for either
abbrev pub either : {P Q : Type 0} → Check P → Check Q → Check (P ⊎ Q)
either p q = record { test = p.test || q.test; law = λ t. elim (one_of p.test q.test t) [ inl s ↦ inl (p.law s) | inr s ↦ inr (q.law s) ] }

-- ---- of numbers

-- two numbers are the same
abbrev pub equal : (a b : ℕ) → Check (a ≡ b)
equal a b = record { test = eqb a b; law = eqb→eq a b }

-- one is at most the other
abbrev pub at_most : (a b : ℕ) → Check (a ≤ b)
at_most a b = record { test = leb a b; law = leb→le a b }

-- one is less than the other
abbrev pub less : (a b : ℕ) → Check (a < b)
less a b = record { test = ltb a b; law = ltb→lt a b }

-- the test for the same fails
pub not_same : (a b : ℕ) → T (not (eqb a b)) → a ≡ b → ⊥
not_same a b t e = subst (λ (x : Bool). T (not x)) (eq-eqb a b e) t

-- two numbers differ
abbrev pub unequal : (a b : ℕ) → Check (a ≡ b → ⊥)
unequal a b = record { test = not (eqb a b); law = not_same a b }

-- what is to hold where a is below b
abbrev pub below : (a b : ℕ) {P : Type 0} → Check P → Check (a < b → P)
below a b p = by (λ s h. elim s [ inl m ↦ absurd (omega (arith, m, h)) | inr x ↦ x ]) (either (at_most b a) p)

-- ---- of each of some

-- every number below n
abbrev pub all_below : ℕ → (ℕ → Bool) → Bool
all_below zero f = true
all_below (suc n) f = f n && all_below n f

-- a test that passes at all passes at each
pub all-below : (n : ℕ) (f : ℕ → Bool) → T (all_below n f) → (i : ℕ) → i < n → T (f i)
all-below zero f t i h = absurd (omega arith)
all-below (suc n) f t i h = go (ℕ_discrete i n) (all-below n f (right (f n) (all_below n f) t) i)
  where
    go : Dec (i ≡ n) → (i < n → T (f i)) → T (f i)
    go (yes e) rest = subst (λ (j : ℕ). T (f j)) (sym e) (left (f n) (all_below n f) t)
    go (no d) rest = rest (omega arith)

-- P holds of every number below n
abbrev pub each : (n : ℕ) {P : ℕ → Type 0} → ((i : ℕ) → Check (P i)) → Check ((i : ℕ) → i < n → P i)
each n c = record { test = all_below n (λ i. (c i).test); law = λ t i h. (c i).law (all-below n (λ j. (c j).test) t i h) }

-- some number below n
abbrev pub some_below : ℕ → (ℕ → Bool) → Bool
some_below zero f = false
some_below (suc n) f = f n || some_below n f

-- a test that passes at some passes at one
pub some_below_lem : (n : ℕ) (f : ℕ → Bool) → T (some_below n f) → (i : ℕ) × (i < n) × T (f i)
some_below_lem zero f t = absurd t
some_below_lem (suc n) f t = go (one_of (f n) (some_below n f) t) (some_below_lem n f)
  where
    go : T (f n) ⊎ T (some_below n f) → (T (some_below n f) → (i : ℕ) × (i < n) × T (f i)) → (i : ℕ) × (i < suc n) × T (f i)
    go (inl s) rest = (n, omega arith, s)
    go (inr s) rest = let r = rest s in (r.0, omega (arith, r.1), r.2)

-- P holds of some number below n
abbrev pub some : (n : ℕ) {P : ℕ → Type 0} → ((i : ℕ) → Check (P i)) → Check ((i : ℕ) × (i < n) × P i)
some n c = record {
  test = some_below n (λ i. (c i).test);
  law = λ t. (let r = some_below_lem n (λ i. (c i).test) t in (r.0, r.1, (c r.0).law r.2));
}

-- ---- of whole numbers and lists

-- the same whole number
abbrev pub same_whole : ℤ → ℤ → Bool
same_whole (pos a) (pos b) = eqb a b
same_whole (pos a) (negsuc b) = false
same_whole (negsuc a) (pos b) = false
same_whole (negsuc a) (negsuc b) = eqb a b

-- its law
pub same_whole_lem : (a b : ℤ) → T (same_whole a b) → a ≡ b
same_whole_lem (pos a) (pos b) t = ap pos (eqb→eq a b t)
same_whole_lem (pos a) (negsuc b) t = absurd t
same_whole_lem (negsuc a) (pos b) t = absurd t
same_whole_lem (negsuc a) (negsuc b) t = ap negsuc (eqb→eq a b t)

-- two whole numbers are the same
abbrev pub whole : (a b : ℤ) → Check (a ≡ b)
whole a b = record { test = same_whole a b; law = same_whole_lem a b }

-- the same list
abbrev pub same_list : List ℕ → List ℕ → Bool
same_list [] [] = true
same_list [] (b ∷ bs) = false
same_list (a ∷ al) [] = false
same_list (a ∷ al) (b ∷ bs) = eqb a b && same_list al bs

-- its law
pub same-list : (a b : List ℕ) → T (same_list a b) → a ≡ b
same-list [] [] t = refl
same-list [] (b ∷ bs) t = absurd t
same-list (a ∷ al) [] t = absurd t
same-list (a ∷ al) (b ∷ bs) t = ap₂ ◌∷◌ (eqb→eq a b (left (eqb a b) (same_list al bs) t)) (same-list al bs (right (eqb a b) (same_list al bs) t))

-- two lists are the same
abbrev pub list : (a b : List ℕ) → Check (a ≡ b)
list a b = record { test = same_list a b; law = same-list a b }

-- a list of zeros
abbrev pub zero_list : List ℕ → Bool
zero_list [] = true
zero_list (x ∷ xs) = eqb x 0 && zero_list xs

-- its law
pub zero-list : (xs : List ℕ) → T (zero_list xs) → (i : ℕ) → get_or xs i 0 ≡ 0
zero-list [] t i = refl
zero-list (x ∷ xs) t zero = eqb→eq x 0 (left (eqb x 0) (zero_list xs) t)
zero-list (x ∷ xs) t (suc i) = zero-list xs (right (eqb x 0) (zero_list xs) t) i

-- every place of a list is zero
abbrev pub zeros : (xs : List ℕ) → Check ((i : ℕ) → get_or xs i 0 ≡ 0)
zeros xs = record { test = zero_list xs; law = zero-list xs }
