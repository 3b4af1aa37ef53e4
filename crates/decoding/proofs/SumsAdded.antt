-- Laws of sums: added term by term, moved on by one, and how often the members of a list are counted.
use borrow.Author.Tests.{eq-eqb, ne_eqb}
use lib.Dec.{eqb}
use lib.ListN.{get_or, length}
use mathlib.Core.Bool.{Bool, false, true}
use mathlib.Core.List.{List, [], ◌∷◌}
use mathlib.Core.Path.{ap, refl, ◌∙◌, ◌≡◌}
use native.Mathlib.Decide.{ℕ_discrete}
use native.Mathlib.Nat.{suc-mul}
use native.Mathlib.Omega.{arith}
use Prim.Native.Nat.{◌*◌, ◌+◌, ◌<◌, suc, suc-le-suc, zero, zero-le, ℕ, ◌≤◌}
use Rattle.decoding.specs.Totals.{leading, total}
use Rattle.trellises.specs.Graph.{Branch, no_branch}
use Rattle.words.specs.Choice.{more}

-- two sums, added term by term
pub total-add : (A B C : ℕ → ℕ) (a n : ℕ) → ((t : ℕ) → a ≤ t → t < a + n → A t + B t ≡ C t) → total a n A + total a n B ≡ total a n C
total-add A B C a zero h = refl
total-add A B C a (suc n) h = omega (arith, h a (omega arith) (omega arith), total-add A B C (suc a) n (λ t l m. h t (omega arith) (omega arith)))

-- a sum moved on by one
pub total-next : (F : ℕ → ℕ) (a n : ℕ) → total a n (λ t. F (suc t)) ≡ total (suc a) n F
total-next F a zero = refl
total-next F a (suc n) = ap (λ (x : ℕ). F (suc a) + x) (total-next F (suc a) n)

-- it loses its first term and gains the one after its last
pub total-moved : (F : ℕ → ℕ) (a n : ℕ) → total a n F + F (a + n) ≡ F a + total (suc a) n F
total-moved F a zero = let e : a + 0 ≡ a = omega arith in rw e (omega arith)
total-moved F a (suc n) = let e : a + suc n ≡ suc a + n = omega arith in rw e (omega (arith, total-moved F (suc a) n))

-- a sum of n equal terms
pub total-equal : (x a n : ℕ) → total a n (λ t. x) ≡ n * x
total-equal x a zero = omega arith
total-equal x a (suc n) = omega (arith, total-equal x (suc a) n, suc-mul n x)

-- ---- a list's members, each counted at the state where it leads

-- x is none of the numbers
none_more : (A : ℕ → ℕ) (x a n : ℕ) → x < a → total a n (λ j. more (eqb x j) (A j)) ≡ total a n A
none_more A x a zero h = refl
none_more A x a (suc n) h = rw (ne_eqb x a (omega arith)) (ap (λ (s : ℕ). A a + s) (none_more A x (suc a) n (omega arith)))

-- x is one of them
one_more : (A : ℕ → ℕ) (x a n : ℕ) → a ≤ x → x < a + n → total a n (λ j. more (eqb x j) (A j)) ≡ suc (total a n A)
one_more A x a zero l h = absurd (omega arith)
one_more A x a (suc n) l h = go (ℕ_discrete x a) (one_more A x (suc a) n)
  where
    go : Dec (x ≡ a) → (a < x → x < suc a + n → total (suc a) n (λ j. more (eqb x j) (A j)) ≡ suc (total (suc a) n A))
        → total a (suc n) (λ j. more (eqb x j) (A j)) ≡ suc (total a (suc n) A)
    go (yes e) ih = rw (eq-eqb x a e) (omega (arith, none_more A x (suc a) n (omega arith)))
    go (no d) ih = rw (ne_eqb x a d) (omega (arith, ih (omega arith) (omega arith)))

-- each member leads to one of m states, so all states together have as many as there are
pub leading-total : (branches : List Branch) (m : ℕ) → ((i : ℕ) → i < length branches → (get_or branches i no_branch).to < m)
    → total 0 m (λ j. leading j branches) ≡ length branches
leading-total [] m h = omega (arith, total-equal 0 0 m)
leading-total (branch ∷ branches) m h =
    one_more (λ j. leading j branches) branch.to 0 m zero-le (omega (arith, h 0 (suc-le-suc zero-le)))
    ∙ ap suc (leading-total branches m (λ i l. h (suc i) (suc-le-suc l)))

-- a member that leads to j is counted there
pub leading-some : (branches : List Branch) (j i : ℕ) → i < length branches → (get_or branches i no_branch).to ≡ j → 1 ≤ leading j branches
leading-some [] j i h e = absurd (omega arith)
leading-some (branch ∷ branches) j zero h e = rw (eq-eqb branch.to j e) (omega arith)
leading-some (branch ∷ branches) j (suc i) h e = omega (arith, at_least (eqb branch.to j) (leading j branches), leading-some branches j i (omega arith) e)
  where
    at_least : (b : Bool) (n : ℕ) → n ≤ more b n
    at_least true n = omega arith
    at_least false n = omega arith
