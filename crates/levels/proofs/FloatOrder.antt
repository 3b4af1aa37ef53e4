-- The order of the values: it is transitive, negation turns it round, and a number is zero or more or else negative.
use Prim.Native.Nat.{ℕ, ◌+◌, ◌*◌, ◌<◌, ◌≤◌}
use lib.Dec.{T, eqb, eqb→eq, ltb, ltb→lt, lt→ltb, nltb→le}
use lib.Ieee.{Float, fin, inf, is_nan, le, lt, nan, neg, up, down}
use lib.Ieee.Fits.{and_i, and_l, and_r, down_pos, eq→eqb}
use lib.Ieee.Positive.{through}
use lib.IntN.{ℤ}
use mathlib.Core.Bool.{Bool, true, false, not, true≢false, ◌&&◌, ◌||◌}
use mathlib.Core.Logic.{◌⊎◌, inl, inr}
use mathlib.Core.Path.{◌≡◌, ap, refl, subst, sym, ◌∙◌}
use native.Mathlib.Nat.{eq-or-lt_of_le, eq-zero-or-pos, le_of_eq, le_of_lt, lt_irrefl, mul-pos, zero-mul}
use native.Mathlib.Omega.{arith}
use Rattle.levels.specs.Choosing.{nought}

-- ---- tests

-- a disjunction of tests, from either and to either
or_l : (a b : Bool) → T a → T (a || b)
or_l true b t = tt
or_l false b t = absurd t

or_r : (a b : Bool) → T b → T (a || b)
or_r true b t = tt
or_r false b t = t

or_split : (a b : Bool) → T (a || b) → T a ⊎ T b
or_split true b t = inl tt
or_split false b t = inr t

-- ---- finite values as fractions with a sign

-- s x / p is at most t y / q, for p and q above 0; a negative zero is equal to the other
abbrev Most : Bool → ℕ → ℕ → Bool → ℕ → ℕ → Type 0
Most false x p false y q = x * q ≤ y * p
Most false x p true y q = (x ≡ 0) × (y ≡ 0)
Most true x p false y q = Unit {0}
Most true x p true y q = y * p ≤ x * q

-- a product is 0 only if one factor is
first-zero : (x q : ℕ) → 0 < q → x * q ≡ 0 → x ≡ 0
first-zero x q h e = go (eq-zero-or-pos x)
  where
    go : (x ≡ 0) ⊎ (0 < x) → x ≡ 0
    go (inl z) = z
    go (inr p) = absurd (lt_irrefl 0 (subst (λ (n : ℕ). 0 < n) e (mul-pos p h)))

-- the order of such fractions is transitive
most-trans : (s t u : Bool) (x p y q z r : ℕ) → 0 < p → 0 < q → 0 < r → Most s x p t y q → Most t y q u z r → Most s x p u z r
most-trans false false false x p y q z r P Q R h k = through x y z p q r Q h k
most-trans false false true x p y q z r P Q R h k =
    let n : y * p ≡ 0 = ap (λ (w : ℕ). w * p) k.0 ∙ zero-mul p in
    (first-zero x q Q (omega arith), k.1)
most-trans false true false x p y q z r P Q R h k =
    let n : x * r ≡ 0 = ap (λ (w : ℕ). w * r) h.0 ∙ zero-mul r in
    omega arith
most-trans false true true x p y q z r P Q R h k =
    let n : y * r ≡ 0 = ap (λ (w : ℕ). w * r) h.1 ∙ zero-mul r in
    (h.0, first-zero z q Q (omega arith))
most-trans true false false x p y q z r P Q R h k = tt
most-trans true false true x p y q z r P Q R h k =
    let n : z * p ≡ 0 = ap (λ (w : ℕ). w * p) k.1 ∙ zero-mul p in
    omega arith
most-trans true true false x p y q z r P Q R h k = tt
most-trans true true true x p y q z r P Q R h k = through z y x r q p Q k h

-- ---- the comparison of two finite values says this

-- the tests of two numbers of one sign
at_most : (a b : ℕ) → T (ltb a b || (eqb a b && true)) → a ≤ b
at_most a b t = go (or_split (ltb a b) (eqb a b && true) t)
  where
    go : T (ltb a b) ⊎ T (eqb a b && true) → a ≤ b
    go (inl u) = le_of_lt (ltb→lt a b u)
    go (inr u) = le_of_eq (eqb→eq a b (and_l (eqb a b) true u))

of-at-most : (a b : ℕ) → a ≤ b → T (ltb a b || (eqb a b && true))
of-at-most a b h = go (eq-or-lt_of_le h)
  where
    go : (a ≡ b) ⊎ (a < b) → T (ltb a b || (eqb a b && true))
    go (inl e) = or_r (ltb a b) (eqb a b && true) (and_i (eqb a b) true (eq→eqb e) tt)
    go (inr l) = or_l (ltb a b) (eqb a b && true) (lt→ltb a b l)

-- a negative number is at most any that is not
of_either : (a b : ℕ) → T (ltb 0 (a + b) || (eqb a b && eqb a 0))
of_either a b = go (eq-zero-or-pos (a + b))
  where
    go : (a + b ≡ 0) ⊎ (0 < a + b) → T (ltb 0 (a + b) || (eqb a b && eqb a 0))
    go (inl e) =
        let same : a ≡ b = omega arith in
        let none : a ≡ 0 = omega arith in
        or_r (ltb 0 (a + b)) (eqb a b && eqb a 0) (and_i (eqb a b) (eqb a 0) (eq→eqb same) (eq→eqb none))
    go (inr h) = or_l (ltb 0 (a + b)) (eqb a b && eqb a 0) (lt→ltb 0 (a + b) h)

swapped : (a b : ℕ) → T (ltb b a || (eqb a b && true)) → b ≤ a
swapped a b t = go (or_split (ltb b a) (eqb a b && true) t)
  where
    go : T (ltb b a) ⊎ T (eqb a b && true) → b ≤ a
    go (inl u) = le_of_lt (ltb→lt b a u)
    go (inr u) = le_of_eq (sym (eqb→eq a b (and_l (eqb a b) true u)))

of-swapped : (a b : ℕ) → b ≤ a → T (ltb b a || (eqb a b && true))
of-swapped a b h = go (eq-or-lt_of_le h)
  where
    go : (b ≡ a) ⊎ (b < a) → T (ltb b a || (eqb a b && true))
    go (inl e) = or_r (ltb b a) (eqb a b && true) (and_i (eqb a b) true (eq→eqb (sym e)) tt)
    go (inr l) = or_l (ltb b a) (eqb a b && true) (lt→ltb b a l)

-- from the test to the fractions, and back
le-most : (s t : Bool) (m n : ℕ) (e d : ℤ) → T (le (fin s m e) (fin t n d)) → Most s (m * up e) (down e) t (n * up d) (down d)
unfolding le
le-most false false m n e d h = at_most (m * up e * down d) (n * up d * down e) h
le-most false true m n e d h =
    let a : m * up e * down d ≡ n * up d * down e = eqb→eq (m * up e * down d) (n * up d * down e) (and_l (eqb (m * up e * down d) (n * up d * down e)) (eqb (m * up e * down d) 0) h) in
    let b : m * up e * down d ≡ 0 = eqb→eq (m * up e * down d) 0 (and_r (eqb (m * up e * down d) (n * up d * down e)) (eqb (m * up e * down d) 0) h) in
    (first-zero (m * up e) (down d) (down_pos d) b, first-zero (n * up d) (down e) (down_pos e) (sym a ∙ b))
le-most true false m n e d h = tt
le-most true true m n e d h = swapped (m * up e * down d) (n * up d * down e) h

most-le : (s t : Bool) (m n : ℕ) (e d : ℤ) → Most s (m * up e) (down e) t (n * up d) (down d) → T (le (fin s m e) (fin t n d))
unfolding le
most-le false false m n e d h = of-at-most (m * up e * down d) (n * up d * down e) h
most-le false true m n e d h =
    let a : m * up e * down d ≡ 0 = ap (λ (w : ℕ). w * down d) h.0 ∙ zero-mul (down d) in
    let b : n * up d * down e ≡ 0 = ap (λ (w : ℕ). w * down e) h.1 ∙ zero-mul (down e) in
    and_i (eqb (m * up e * down d) (n * up d * down e)) (eqb (m * up e * down d) 0) (eq→eqb (a ∙ sym b)) (eq→eqb a)
most-le true false m n e d h = of_either (m * up e * down d) (n * up d * down e)
most-le true true m n e d h = of-swapped (m * up e * down d) (n * up d * down e) h

-- ---- any values

-- x is at most y, by cases
abbrev Less : Float → Float → Type 0
Less nan y = ⊥
Less (inf s) nan = ⊥
Less (inf s) (inf t) = T (s || not t)
Less (inf s) (fin t n d) = T s
Less (fin s m e) nan = ⊥
Less (fin s m e) (inf t) = T (not t)
Less (fin s m e) (fin t n d) = Most s (m * up e) (down e) t (n * up d) (down d)

-- a disjunction with false
drop_false : (b : Bool) → T (b || false) → T b
drop_false true t = tt
drop_false false t = t

-- from the comparison to the cases, and back
le-less : (x y : Float) → T (le x y) → Less x y
unfolding le
le-less nan y h = h
le-less (inf s) nan h = h
le-less (inf true) (inf t) h = tt
le-less (inf false) (inf true) h = h
le-less (inf false) (inf false) h = tt
le-less (inf s) (fin t n d) h = drop_false s h
le-less (fin s m e) nan h = h
le-less (fin s m e) (inf t) h = drop_false (not t) h
le-less (fin s m e) (fin t n d) h = le-most s t m n e d h

less-le : (x y : Float) → Less x y → T (le x y)
unfolding le
less-le nan y h = h
less-le (inf s) nan h = h
less-le (inf true) (inf true) h = tt
less-le (inf true) (inf false) h = tt
less-le (inf false) (inf true) h = h
less-le (inf false) (inf false) h = tt
less-le (inf s) (fin t n d) h = or_l s false h
less-le (fin s m e) nan h = h
less-le (fin s m e) (inf t) h = or_l (not t) false h
less-le (fin s m e) (fin t n d) h = most-le s t m n e d h

-- the order is transitive by cases
less-trans : (x y z : Float) → Less x y → Less y z → Less x z
less-trans nan y z h k = h
less-trans (inf s) nan z h k = absurd h
less-trans (inf s) (inf t) nan h k = k
less-trans (inf true) (inf t) (inf u) h k = tt
less-trans (inf false) (inf true) (inf u) h k = absurd h
less-trans (inf false) (inf false) (inf u) h k = k
less-trans (inf true) (inf t) (fin u o c) h k = tt
less-trans (inf false) (inf true) (fin u o c) h k = h
less-trans (inf false) (inf false) (fin u o c) h k = k
less-trans (inf s) (fin t n d) nan h k = k
less-trans (inf s) (fin t n d) (inf u) h k = or_l s (not u) h
less-trans (inf s) (fin t n d) (fin u o c) h k = h
less-trans (fin s m e) nan z h k = absurd h
less-trans (fin s m e) (inf t) nan h k = k
less-trans (fin s m e) (inf true) (inf u) h k = absurd h
less-trans (fin s m e) (inf false) (inf u) h k = k
less-trans (fin s m e) (inf true) (fin u o c) h k = absurd h
less-trans (fin s m e) (inf false) (fin u o c) h k = absurd k
less-trans (fin s m e) (fin t n d) nan h k = k
less-trans (fin s m e) (fin t n d) (inf u) h k = k
less-trans (fin s m e) (fin t n d) (fin u o c) h k =
    most-trans s t u (m * up e) (down e) (n * up d) (down d) (o * up c) (down c) (down_pos e) (down_pos d) (down_pos c) h k

-- of any values
pub le_trans : (x y z : Float) → T (le x y) → T (le y z) → T (le x z)
le_trans x y z h k = less-le x z (less-trans x y z (le-less x y h) (le-less y z k))

-- negation turns the order round
less-turned : (x y : Float) → Less x y → Less (neg y) (neg x)
unfolding neg
less-turned nan y h = absurd h
less-turned (inf s) nan h = absurd h
less-turned (inf true) (inf true) h = tt
less-turned (inf true) (inf false) h = tt
less-turned (inf false) (inf true) h = absurd h
less-turned (inf false) (inf false) h = tt
less-turned (inf true) (fin t n d) h = tt
less-turned (inf false) (fin t n d) h = absurd h
less-turned (fin s m e) nan h = absurd h
less-turned (fin s m e) (inf t) h = h
less-turned (fin false m e) (fin false n d) h = h
less-turned (fin false m e) (fin true n d) h = (h.1, h.0)
less-turned (fin true m e) (fin false n d) h = tt
less-turned (fin true m e) (fin true n d) h = h

-- of any values
pub turned : (x y : Float) → T (le x y) → T (le (neg y) (neg x))
turned x y h = less-le (neg y) (neg x) (less-turned x y (le-less x y h))

-- negating twice
pub neg-neg : (x : Float) → neg (neg x) ≡ x
unfolding neg
neg-neg nan = refl
neg-neg (inf true) = refl
neg-neg (inf false) = refl
neg-neg (fin true m e) = refl
neg-neg (fin false m e) = refl

-- ---- zero or more, or negative

-- a value that is not below zero is zero or more, if it is a number
pub not_negative : (x : Float) → (T (is_nan x) → ⊥) → lt x nought ≡ false → T (le nought x)
unfolding is_nan lt
not_negative nan n h = absurd (n tt)
not_negative (inf true) n h = absurd (true≢false h)
not_negative (inf false) n h = unfold le in tt
not_negative (fin false m e) n h = less-le nought (fin false m e) (omega arith)
not_negative (fin true m e) n h =
    less-le nought (fin true m e) (refl, first-zero (m * up e) 1 (omega arith) (none (m * up e * 1) h))
  where
    none : (a : ℕ) → ltb 0 (a + 0 * down e) ≡ false → a ≡ 0
    none a k = omega (arith, nltb→le 0 (a + 0 * down e) (subst (λ (b : Bool). T (not b)) (sym k) tt))

-- what is below zero is not zero or more
pub never-both-signs : (x : Float) → T (lt x nought) → T (le nought x) → ⊥
unfolding lt
never-both-signs nan h k = h
never-both-signs (inf true) h k = le-less nought (inf true) k
never-both-signs (inf false) h k = h
never-both-signs (fin false m e) h k = absurd (omega (arith, ltb→lt (m * up e * 1) (0 * down e) h))
never-both-signs (fin true m e) h k =
    let z : m * up e ≡ 0 = (le-less nought (fin true m e) k).1 in
    omega (arith, ltb→lt 0 (m * up e * 1 + 0 * down e) h)

-- the negation of what is below zero is zero or more
pub negated-more : (x : Float) → T (lt x nought) → T (le nought (neg x))
unfolding lt neg
negated-more nan h = absurd h
negated-more (inf true) h = unfold le in tt
negated-more (inf false) h = absurd h
negated-more (fin false m e) h = absurd (omega (arith, ltb→lt (m * up e * 1) (0 * down e) h))
negated-more (fin true m e) h = less-le nought (fin false m e) (omega arith)
