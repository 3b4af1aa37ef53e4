-- What the counts say: they add up to 2 ^ k, and the smallest weight above zero is the first with a count above zero.
use Rattle.std.proofs.Common.{Result, Ok, Err, Option, Some, None}
use lib.ListN.{get_or}
use mathlib.Core.List.{List}
use mathlib.Core.Logic.{◌↔◌}
use mathlib.Core.Path.{refl, subst, ◌∙◌, ◌≡◌}
use native.Mathlib.Decide.{dec_lt, ℕ_discrete}
use native.Mathlib.Omega.{arith}
use Prim.Native.Nat.{◌<◌, ◌^◌, ℕ, ◌≤◌}
use Rattle.plates.proofs.SoundIsPrepared.{sound}
use Rattle.plates.specs.declared.Plate.{Plate}
use Rattle.plates.specs.declared.Refusal.{Refusal}
use Rattle.plates.specs.declared.Refusal.TheVariants.{NotPrepared}
use Rattle.plates.specs.Prepare.{IsPrepared, rows_of}
use Rattle.plates.specs.Refusals.{Passes}
use Rattle.trellises.specs.SectionOf.{section_of}
use Rattle.weights.proofs.CountPairs.{number-once, number-some, number-zero}
use Rattle.weights.proofs.PlateWeights.{codeword-below, ways-add, ways-number, weight-most}
use Rattle.weights.proofs.WaysAdded.{total-same}
use Rattle.weights.proofs.WeightsDetermined.{none_above}
use Rattle.weights.specs.Number.{total}
use Rattle.weights.specs.Ways.{ways}
use Rattle.weights.specs.Weights.{CountsWeights, Filled, weight_conditions}

module _ (plate : Plate) (counts working counts' working' : List ℕ) where
  -- the counts of a prepared plate
  filled-adds : IsPrepared plate → Filled plate counts working counts' working' → total 65 (λ w. get_or counts' w 0) ≡ 2 ^ plate.k
  filled-adds given f =
      total-same 65 (λ w. get_or counts' w 0) (ways (section_of (rows_of plate)) plate.n 0 0) (λ w l. number-once (f.here w l) (ways-number plate given w))
      ∙ ways-add plate given

  adds : Passes (weight_conditions plate counts working) → Filled plate counts working counts' working' → total 65 (λ w. get_or counts' w 0) ≡ 2 ^ plate.k
  adds p f = go (ℕ_discrete (total 65 (λ w. get_or counts' w 0)) (2 ^ plate.k))
    where
      go : Dec (total 65 (λ w. get_or counts' w 0) ≡ 2 ^ plate.k) → total 65 (λ w. get_or counts' w 0) ≡ 2 ^ plate.k
      go (yes e) = e
      go (no d) = absurd (p.0 NotPrepared ((λ given. d (filled-adds given f)), refl))

  -- all counts add up to 2 ^ k, unless the call is refused
  pub counts-add-up : (r : Result (Option ℕ) Refusal) → CountsWeights plate counts working counts' working' r → ((q : Refusal) → r ≡ Err q → ⊥)
      → total 65 (λ w. get_or counts' w 0) ≡ 2 ^ plate.k
  counts-add-up (Err q) x n = absurd (n q refl)
  counts-add-up (Ok (Some w)) x n = adds x.0 x.2
  counts-add-up (Ok None) x n = adds x.0 x.2

  -- the smallest weight above zero of a prepared plate has a count above zero, and each smaller one above zero has none
  pub least-weight : IsPrepared plate → (w : ℕ) → CountsWeights plate counts working counts' working' (Ok (Some w))
      → (0 < w) × (w ≤ plate.n) × (0 < get_or counts' w 0) × ((v : ℕ) → 0 < v → v < w → get_or counts' v 0 ≡ 0)
  least-weight given w x = (x.1.above, most, some (dec_lt 0 (get_or counts' w 0)), λ v a l. none v a l (dec_lt 0 (get_or counts' v 0)))
    where
      most : w ≤ plate.n
      most = weight-most plate given x.1.has

      small : w < 65
      small = omega (arith, most, (sound given).short)

      some : Dec (0 < get_or counts' w 0) → 0 < get_or counts' w 0
      some (yes h) = h
      some (no h) = absurd (number-zero (x.2.here w small) (omega arith) x.1.word (codeword-below plate given x.1.has.codeword) x.1.has)

      none : (v : ℕ) → 0 < v → v < w → Dec (0 < get_or counts' v 0) → get_or counts' v 0 ≡ 0
      none v a l (yes h) = let y = number-some (x.2.here v (omega (arith, l, small))) h in absurd (omega (arith, l, x.1.smallest y.0 v y.2 a))
      none v a l (no h) = omega arith

  -- there is none exactly where k is 0, unless the call is refused
  pub none-exactly : (r : Result (Option ℕ) Refusal) → CountsWeights plate counts working counts' working' r → ((q : Refusal) → r ≡ Err q → ⊥)
      → (r ≡ Ok None) ↔ (plate.k ≡ 0)
  none-exactly (Err q) x n = absurd (n q refl)
  none-exactly (Ok (Some w)) x n = ((λ e. absurd (apart e)), λ e. absurd (none_above plate e w x.1))
    where
      apart : ◌≡◌ {A = Result (Option ℕ) Refusal} (Ok (Some w)) (Ok None) → ⊥
      apart e = subst told e tt
        where
          told : Result (Option ℕ) Refusal → Type 0
          told (Err q) = Unit {0}
          told (Ok (Some w)) = Unit {0}
          told (Ok None) = ⊥
  none-exactly (Ok None) x n = ((λ e. x.1), λ e. refl)
