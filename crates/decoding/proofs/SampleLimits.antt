-- Samples are not refused for one of them exactly if all are within the limit, and for their number only if they are n.
use lib.IntN.{nat_abs, pos, ℤ}
use lib.ListN.{get_or, length}
use mathlib.Core.List.{List}
use mathlib.Core.Logic.{inl, inr, ◌⊎◌}
use mathlib.Core.Path.{refl, subst, sym, ◌≡◌}
use native.Mathlib.Decide.{dec_le, ℕ_discrete}
use native.Mathlib.Nat.{le_refl}
use native.Mathlib.Omega.{arith}
use Prim.Native.Nat.{◌+◌, ◌<◌, suc, zero, ℕ, ◌≤◌}
use Rattle.decoding.proofs.MetricBounds.{Within}
use Rattle.decoding.specs.Decode.{SampleOver, sample_count}
use Rattle.decoding.specs.Metric.{limit}
use Rattle.plates.specs.declared.Plate.{Plate}
use Rattle.plates.specs.declared.Refusal.{Refusal}
use Rattle.plates.specs.declared.Refusal.TheVariants.{SampleCount, SampleRange}
use Rattle.words.proofs.Span.{lt-tri}

-- one more sample within the limit
pub passed : (samples : List ℤ) (i : ℕ) → ((j : ℕ) → j < i → nat_abs (get_or samples j (pos 0)) ≤ limit) → nat_abs (get_or samples i (pos 0)) ≤ limit
    → (j : ℕ) → j < i + 1 → nat_abs (get_or samples j (pos 0)) ≤ limit
passed samples i before here j h = go (lt-tri j i)
  where
    go : (j < i) ⊎ ((j ≡ i) ⊎ (i < j)) → nat_abs (get_or samples j (pos 0)) ≤ limit
    go (inl l) = before j l
    go (inr (inl e)) = subst (λ (x : ℕ). nat_abs (get_or samples x (pos 0)) ≤ limit) (sym e) here
    go (inr (inr l)) = absurd (omega arith)

-- samples within the limit are not refused
pub within-passes : (samples : List ℤ) → Within limit samples → (q : Refusal) → SampleOver samples q → ⊥
within-passes samples h q o = omega (arith, o.over, h o.position o.there)

-- where no sample is over, all are within the limit
pub none_over : (samples : List ℤ) → ((q : Refusal) → SampleOver samples q → ⊥) → Within limit samples
none_over samples n i k = upto (length samples) (le_refl (length samples)) i k
  where
    here : (j : ℕ) → j < length samples → ((i : ℕ) → i < j → nat_abs (get_or samples i (pos 0)) ≤ limit) → Dec (nat_abs (get_or samples j (pos 0)) ≤ limit) → nat_abs (get_or samples j (pos 0)) ≤ limit
    here j h before (yes l) = l
    here j h before (no l) = absurd (n (SampleRange j) (record { position = j; there = h; over = omega (arith, l); first = before; is = refl }))

    upto : (j : ℕ) → j ≤ length samples → (i : ℕ) → i < j → nat_abs (get_or samples i (pos 0)) ≤ limit
    upto zero h i k = absurd (omega arith)
    upto (suc j) h i k = passed samples j (upto j (omega arith)) (here j h (upto j (omega arith)) (dec_le (nat_abs (get_or samples j (pos 0))) limit)) i (omega arith)

-- samples whose number is not refused are n
pub samples-are-n : (plate : Plate) (samples : List ℤ) → ((q : Refusal) → sample_count plate samples q → ⊥) → length samples ≡ plate.n
samples-are-n plate samples passes = go (ℕ_discrete (length samples) plate.n)
  where
    go : Dec (length samples ≡ plate.n) → length samples ≡ plate.n
    go (yes e) = e
    go (no d) = absurd (passes SampleCount (d, refl))
