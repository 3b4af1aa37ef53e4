-- The replies of `firmness_parts`, case by case.
use Rattle.std.proofs.Common.{Ok, Err}
use lib.IntN.{pos, ℤ}
use lib.ListN.{drop, length, replicate}
use mathlib.Core.List.{◌++◌, List}
use mathlib.Core.Logic.{inl, inr}
use mathlib.Core.Path.{refl, ◌≡◌}
use native.Mathlib.Omega.{arith}
use Prim.Native.Nat.{◌<◌, ℕ, ◌≤◌}
use Rattle.decoding.proofs.FirmnessRead.{flag-of}
use Rattle.decoding.proofs.MetricBounds.{Within}
use Rattle.decoding.proofs.PlateSizes.{plate_sizes}
use Rattle.decoding.proofs.SampleLimits.{within-passes}
use Rattle.decoding.proofs.ZeroedRooms.{zeroed}
use Rattle.decoding.specs.declared.firmness.Reading.{Reading}
use Rattle.decoding.specs.Decode.{SampleOver, decision_need, metric_need}
use Rattle.decoding.specs.Firmness.{TellsFirmness, firmness_conditions}
use Rattle.decoding.specs.Forcing.{ReadAt}
use Rattle.decoding.specs.Metric.{limit}
use Rattle.decoding.specs.Searching.{IsFirstOver}
use Rattle.decoding.specs.Sweeping.{RoomsFit}
use Rattle.plates.specs.declared.Plate.{Plate}
use Rattle.plates.specs.declared.Refusal.{Refusal}
use Rattle.plates.specs.declared.Refusal.TheVariants.{DecisionRoom, MetricRoom, NotPrepared, PositionBeyond, SampleCount, SampleRange}
use Rattle.plates.specs.Prepare.{IsPrepared}
use Rattle.plates.specs.Refusals.{Passes}

module _ (plate : Plate) (samples : List ℤ) (position : ℕ) (metrics : List ℤ) (decisions : List ℕ) where
  pub refused-5 : (IsPrepared plate → ⊥) → TellsFirmness plate samples position metrics decisions metrics decisions (Err NotPrepared)
  refused-5 n = (inl (n, refl), refl, refl)

  module _ (given : IsPrepared plate) where
    pub refused-6 : (length samples ≡ plate.n → ⊥) → TellsFirmness plate samples position metrics decisions metrics decisions (Err SampleCount)
    refused-6 n = (inr ((λ q b. b.0 given), inl (n, refl)), refl, refl)

    module _ (size : length samples ≡ plate.n) where
      pub refused-7 : {over : ℕ} → IsFirstOver samples over → TellsFirmness plate samples position metrics decisions metrics decisions (Err (SampleRange over))
      refused-7 {over} found =
          (inr ((λ q b. b.0 given), inr ((λ q b. b.0 size), inl (record { position = over; there = found.there; over = found.here; first = found.before; is = refl }))), refl, refl)

      module _ (samples-within : Within limit samples) where
        no-sample-over : (q : Refusal) → SampleOver samples q → ⊥
        no-sample-over = within-passes samples samples-within

        pub refused-21 : plate.n ≤ position → TellsFirmness plate samples position metrics decisions metrics decisions (Err PositionBeyond)
        refused-21 h = (inr ((λ q b. b.0 given), inr ((λ q b. b.0 size), inr (no-sample-over, inl (h, refl)))), refl, refl)

        module _ (there : position < plate.n) where
          not_beyond : (q : Refusal) → (plate.n ≤ position) × (q ≡ PositionBeyond) → ⊥
          not_beyond q b = omega (arith, b.0)

          pub refused-8 : length metrics < metric_need plate → TellsFirmness plate samples position metrics decisions metrics decisions (Err MetricRoom)
          refused-8 h = (inr ((λ q b. b.0 given), inr ((λ q b. b.0 size), inr (no-sample-over, inr (not_beyond, inl (h, refl))))), refl, refl)

          module _ (metric_room : metric_need plate ≤ length metrics) where
            pub refused-9 : length decisions < decision_need plate → TellsFirmness plate samples position metrics decisions metrics decisions (Err DecisionRoom)
            refused-9 h =
                (inr ((λ q b. b.0 given), inr ((λ q b. b.0 size), inr (no-sample-over, inr (not_beyond, inr ((λ q b. omega (arith, b.0, metric_room)), inl (h, refl)))))), refl, refl)

            module _ (decision_room : decision_need plate ≤ length decisions) where
              pub rooms-fit : RoomsFit (plate_sizes plate given) samples metrics decisions
              rooms-fit = record { size = size; within = λ i k. omega (arith, samples-within i k); metric_room = omega (arith, metric_room); decision_room = decision_room }

              passes : Passes (firmness_conditions plate samples position metrics decisions)
              passes =
                  ((λ q b. b.0 given), ((λ q b. b.0 size), (no-sample-over, (not_beyond, ((λ q b. omega (arith, b.0, metric_room)), ((λ q b. omega (arith, b.0, decision_room)), tt))))))

              pub judged : (metrics' : List ℤ) (decisions' : List ℕ) (reading : Reading) → ReadAt plate.rows (plate_sizes plate given) samples position metrics decisions metrics' decisions' reading
                  → (m d : ℕ) → m ≡ metric_need plate → d ≡ decision_need plate → (metrics'' : List ℤ) → metrics'' ≡ replicate m (pos 0) ++ drop m metrics' → (decisions'' : List ℕ) → decisions'' ≡ replicate d 0 ++ drop d decisions'
                  → TellsFirmness plate samples position metrics decisions metrics'' decisions'' (Ok (record { position = position; reading = reading }))
              judged metrics' decisions' reading f m d em ed metrics'' x decisions'' y = (
                passes,
                flag-of plate given samples size samples-within position there reading f.reads,
                zeroed plate given metrics decisions metrics' decisions' f.kept m d em ed metrics'' x decisions'' y,
              )
