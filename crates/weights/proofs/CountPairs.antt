-- Counting the numbers that pass a test: alike tests, even and odd numbers apart, and one that passes.
use lib.Dec.{T}
use mathlib.Core.Bool.{Bool, false, true}
use mathlib.Core.Path.{ap, ap₂, refl, sym, ◌∙◌, ◌≡◌}
use native.Mathlib.Nat.{pow-suc}
use native.Mathlib.Omega.{arith}
use Prim.Native.Nat.{◌*◌, ◌+◌, ◌<◌, ◌^◌, suc, suc-le-suc, zero, zero-le, ℕ}
use Rattle.weights.specs.Number.{NumberOf}
use Rattle.words.specs.Choice.{count, more}

pub count_same : (k : ℕ) (P Q : ℕ → Bool) → ((i : ℕ) → i < k → P i ≡ Q i) → count k P ≡ count k Q
count_same zero P Q h = refl
count_same (suc k) P Q h = ap₂ more (h 0 (suc-le-suc zero-le)) (count_same k (λ i. P (suc i)) (λ i. Q (suc i)) (λ i l. h (suc i) (suc-le-suc l)))

-- all pass
pub count-all : (k : ℕ) (P : ℕ → Bool) → ((i : ℕ) → i < k → T (P i)) → count k P ≡ k
count-all zero P h = refl
count-all (suc k) P h = go (P 0) (h 0 (suc-le-suc zero-le)) (count-all k (λ i. P (suc i)) (λ i l. h (suc i) (suc-le-suc l)))
  where
    go : (b : Bool) → T b → {n : ℕ} → n ≡ k → more b n ≡ suc k
    go true t e = ap suc e
    go false t e = absurd t

-- where the count is above zero, one passes
pub count-some : (k : ℕ) (P : ℕ → Bool) → 0 < count k P → (i : ℕ) × (i < k) × T (P i)
count-some zero P h = absurd (omega arith)
count-some (suc k) P h = go (P 0) refl h (count-some k (λ i. P (suc i)))
  where
    go : (b : Bool) → P 0 ≡ b → 0 < more b (count k (λ i. P (suc i))) → (0 < count k (λ i. P (suc i)) → (i : ℕ) × (i < k) × T (P (suc i)))
        → (i : ℕ) × (i < suc k) × T (P i)
    go true e l ih = (0, suc-le-suc zero-le, rw e tt)
    go false e l ih = let r = ih l in (suc r.0, suc-le-suc r.1, r.2)

-- where it is zero, none does
pub count-zero : (k : ℕ) (P : ℕ → Bool) → count k P ≡ 0 → (i : ℕ) → i < k → T (P i) → ⊥
count-zero zero P e i l t = absurd (omega arith)
count-zero (suc k) P e zero l t = go (P 0) (count k (λ i. P (suc i))) t e
  where
    go : (b : Bool) (n : ℕ) → T b → more b n ≡ 0 → ⊥
    go true n t e = omega arith
    go false n t e = absurd t
count-zero (suc k) P e (suc i) l t = count-zero k (λ i. P (suc i)) (go (P 0) (count k (λ i. P (suc i))) e) i (omega arith) t
  where
    go : (b : Bool) (n : ℕ) → more b n ≡ 0 → n ≡ 0
    go true n e = absurd (omega arith)
    go false n e = e

-- the even numbers, and the odd ones
pairs : (m : ℕ) (P : ℕ → Bool) → count (m * 2) P ≡ count m (λ x. P (x * 2)) + count m (λ x. P (x * 2 + 1))
pairs zero P = refl
pairs (suc m) P =
    let two : suc m * 2 ≡ suc (suc (m * 2)) = omega arith in
    ap (λ (n : ℕ). count n P) two
    ∙ ap (λ (n : ℕ). more (P 0) (more (P 1) n))
    (pairs m (λ x. P (suc (suc x))) ∙ ap₂ ◌+◌ (count_same m _ _ (λ i l. ap P (even i))) (count_same m _ _ (λ i l. ap P (odd i))))
    ∙ go (P 0) (P 1) (count m (λ x. P (suc x * 2))) (count m (λ x. P (suc x * 2 + 1)))
  where
    even : (i : ℕ) → suc (suc (i * 2)) ≡ suc i * 2
    even i = omega arith

    odd : (i : ℕ) → suc (suc (i * 2 + 1)) ≡ suc i * 2 + 1
    odd i = omega arith

    go : (a b : Bool) (x y : ℕ) → more a (more b (x + y)) ≡ more a x + more b y
    go true true x y = omega arith
    go true false x y = omega arith
    go false true x y = omega arith
    go false false x y = refl

pub count-pairs : (d : ℕ) (P : ℕ → Bool) → count (2 ^ suc d) P ≡ count (2 ^ d) (λ x. P (x * 2)) + count (2 ^ d) (λ x. P (x * 2 + 1))
count-pairs d P = ap (λ (n : ℕ). count n P) (pow-suc 2 d) ∙ pairs (2 ^ d) P

-- two tests that pass together are the same
pub same_test : (a b : Bool) → (T a → T b) → (T b → T a) → a ≡ b
same_test true true f g = refl
same_test true false f g = absurd (f tt)
same_test false true f g = absurd (g tt)
same_test false false f g = refl

-- how many numbers have a property is one number
pub number-once : {P : ℕ → Type 0} {m c d : ℕ} → NumberOf P m c → NumberOf P m d → c ≡ d
number-once {P} {m} a b =
    sym a.number ∙ count_same m a.test b.test same ∙ b.number
  where
    same : (i : ℕ) → i < m → a.test i ≡ b.test i
    same i l = same_test (a.test i) (b.test i) (λ t. (b.right i l).1 ((a.right i l).0 t)) (λ t. (a.right i l).1 ((b.right i l).0 t))

-- it is above zero where one has it, and zero where none has
pub number-some : {P : ℕ → Type 0} {m c : ℕ} → NumberOf P m c → 0 < c → (x : ℕ) × (x < m) × P x
number-some {P} {m} {c} a h =
    let r = count-some m a.test (omega (arith, a.number)) in (r.0, r.1, (a.right r.0 r.1).0 r.2)

pub number-zero : {P : ℕ → Type 0} {m c : ℕ} → NumberOf P m c → c ≡ 0 → (x : ℕ) → x < m → P x → ⊥
number-zero {P} {m} a e x l p = count-zero m a.test (a.number ∙ e) x l ((a.right x l).1 p)
