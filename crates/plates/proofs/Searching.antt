-- Searches in a list: what is known while one goes on, and what it has found when it stops.
use lib.ListN.{get_or}
use mathlib.Core.List.{List}
use mathlib.Core.Path.{subst, sym, ◌≡◌}
use native.Mathlib.Decide.{ℕ_discrete}
use native.Mathlib.Omega.{arith}
use Prim.Native.Nat.{◌+◌, ◌-◌, ◌<◌, ℕ, ◌≤◌}
use Rattle.plates.specs.Working.{FirstAt, LastAt, NoneIn}

-- ---- upwards: none of the places a to i - 1 has P
pub record NotYet (xs : List ℕ) (P : ℕ → Type 0) (a b i : ℕ) : Type 0 where
  pub past : a ≤ i
  pub within : i ≤ b
  pub none : NoneIn xs P a i

pub search-start : {xs : List ℕ} {P : ℕ → Type 0} {a b : ℕ} → a ≤ b → NotYet xs P a b a
search-start h = record { past = omega arith; within = h; none = λ j k l. absurd (omega arith) }

pub search-on : {xs : List ℕ} {P : ℕ → Type 0} {a b i : ℕ} → NotYet xs P a b i → i < b → (P (get_or xs i 0) → ⊥) → NotYet xs P a b (i + 1)
search-on {xs} {P} {a} {b} {i} s h n = record { past = omega arith; within = omega arith; none = λ j k l. go j k l (ℕ_discrete j i) }
  where
    go : (j : ℕ) → a ≤ j → j < i + 1 → Dec (j ≡ i) → P (get_or xs j 0) → ⊥
    go j k l (yes e) = subst (λ (x : ℕ). P (get_or xs x 0) → ⊥) (sym e) n
    go j k l (no d) = s.none j k (omega arith)

pub search-found : {xs : List ℕ} {P : ℕ → Type 0} {a b i : ℕ} → NotYet xs P a b i → i < b → P (get_or xs i 0) → FirstAt xs P a b i
search-found s h p = record { past = s.past; within = h; none = s.none; here = p }

pub search-over : {xs : List ℕ} {P : ℕ → Type 0} {a b i : ℕ} → NotYet xs P a b i → b ≤ i → NoneIn xs P a b
search-over s h j k l = s.none j k (omega arith)

-- ---- downwards: none of the places i to k - 1 has P
pub record NoneFrom (xs : List ℕ) (P : ℕ → Type 0) (k i : ℕ) : Type 0 where
  pub within : i ≤ k
  pub none : NoneIn xs P i k

pub down-start : {xs : List ℕ} {P : ℕ → Type 0} {k : ℕ} → NoneFrom xs P k k
down-start = record { within = omega arith; none = λ j h l. absurd (omega arith) }

pub down-on : {xs : List ℕ} {P : ℕ → Type 0} {k i : ℕ} → NoneFrom xs P k i → 0 < i → (P (get_or xs (i - 1) 0) → ⊥) → NoneFrom xs P k (i - 1)
down-on {xs} {P} {k} {i} s h n = record { within = omega arith; none = λ j l m. go j l m (ℕ_discrete j (i - 1)) }
  where
    go : (j : ℕ) → i - 1 ≤ j → j < k → Dec (j ≡ i - 1) → P (get_or xs j 0) → ⊥
    go j l m (yes e) = subst (λ (x : ℕ). P (get_or xs x 0) → ⊥) (sym e) n
    go j l m (no d) = s.none j (omega arith) m

pub down-found : {xs : List ℕ} {P : ℕ → Type 0} {k i : ℕ} → NoneFrom xs P k i → 0 < i → P (get_or xs (i - 1) 0) → LastAt xs P k (i - 1)
down-found s h p = record { within = omega (arith, s.within); here = p; after = λ j l m. s.none j (omega arith) m }

pub down-over : {xs : List ℕ} {P : ℕ → Type 0} {k i : ℕ} → NoneFrom xs P k i → i ≤ 0 → NoneIn xs P 0 k
down-over s h j l m = s.none j (omega arith) m
