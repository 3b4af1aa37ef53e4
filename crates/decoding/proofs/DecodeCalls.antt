-- The replies of `decode`, case by case.
use Rattle.std.proofs.Common.{Ok, Err}
use lib.IntN.{pos, ℤ}
use lib.ListN.{drop, length, replicate}
use mathlib.Core.List.{◌++◌, List}
use mathlib.Core.Logic.{inl, inr}
use mathlib.Core.Path.{refl, ◌≡◌}
use native.Mathlib.Omega.{arith}
use Prim.Native.Nat.{◌<◌, ℕ, ◌≤◌}
use Rattle.decoding.proofs.BestWord.{best-word}
use Rattle.decoding.proofs.MetricBounds.{Within}
use Rattle.decoding.proofs.PlateSizes.{plate_sizes}
use Rattle.decoding.proofs.SampleLimits.{within-passes}
use Rattle.decoding.proofs.ZeroedRooms.{zeroed}
use Rattle.decoding.specs.declared.Answer.{Answer}
use Rattle.decoding.specs.Decode.{Decodes, SampleOver, decision_need, decode_conditions, metric_need}
use Rattle.decoding.specs.Metric.{limit}
use Rattle.decoding.specs.Searching.{IsFirstOver, Searched}
use Rattle.decoding.specs.Sweeping.{RoomsFit}
use Rattle.plates.specs.declared.Plate.{Plate}
use Rattle.plates.specs.declared.Refusal.{Refusal}
use Rattle.plates.specs.declared.Refusal.TheVariants.{DecisionRoom, MetricRoom, NotPrepared, SampleCount, SampleRange}
use Rattle.plates.specs.Prepare.{IsPrepared}
use Rattle.plates.specs.Refusals.{Passes}

module _ (plate : Plate) (samples metrics : List ℤ) (decisions : List ℕ) where
  pub refused-5 : (IsPrepared plate → ⊥) → Decodes plate samples metrics decisions metrics decisions (Err NotPrepared)
  refused-5 n = (inl (n, refl), refl, refl)

  module _ (given : IsPrepared plate) where
    pub refused-6 : (length samples ≡ plate.n → ⊥) → Decodes plate samples metrics decisions metrics decisions (Err SampleCount)
    refused-6 n = (inr ((λ q b. b.0 given), inl (n, refl)), refl, refl)

    module _ (size : length samples ≡ plate.n) where
      pub refused-7 : {over : ℕ} → IsFirstOver samples over → Decodes plate samples metrics decisions metrics decisions (Err (SampleRange over))
      refused-7 {over} found =
          (inr ((λ q b. b.0 given), inr ((λ q b. b.0 size), inl (record { position = over; there = found.there; over = found.here; first = found.before; is = refl }))), refl, refl)

      module _ (samples-within : Within limit samples) where
        no-sample-over : (q : Refusal) → SampleOver samples q → ⊥
        no-sample-over = within-passes samples samples-within

        pub refused-8 : length metrics < metric_need plate → Decodes plate samples metrics decisions metrics decisions (Err MetricRoom)
        refused-8 h = (inr ((λ q b. b.0 given), inr ((λ q b. b.0 size), inr (no-sample-over, inl (h, refl)))), refl, refl)

        module _ (metric_room : metric_need plate ≤ length metrics) where
          pub refused-9 : length decisions < decision_need plate → Decodes plate samples metrics decisions metrics decisions (Err DecisionRoom)
          refused-9 h = (inr ((λ q b. b.0 given), inr ((λ q b. b.0 size), inr (no-sample-over, inr ((λ q b. omega (arith, b.0, metric_room)), inl (h, refl))))), refl, refl)

          module _ (decision_room : decision_need plate ≤ length decisions) where
            pub rooms-fit : RoomsFit (plate_sizes plate given) samples metrics decisions
            rooms-fit = record { size = size; within = λ i k. omega (arith, samples-within i k); metric_room = omega (arith, metric_room); decision_room = decision_room }

            passes : Passes (decode_conditions plate samples metrics decisions)
            passes = ((λ q b. b.0 given), ((λ q b. b.0 size), (no-sample-over, ((λ q b. omega (arith, b.0, metric_room)), ((λ q b. omega (arith, b.0, decision_room)), tt)))))

            pub decoded : (metrics' : List ℤ) (decisions' : List ℕ) (a : Answer) → Searched plate.rows (plate_sizes plate given) samples metrics decisions metrics' decisions' a
                → (m d : ℕ) → m ≡ metric_need plate → d ≡ decision_need plate → (metrics'' : List ℤ) → metrics'' ≡ replicate m (pos 0) ++ drop m metrics' → (decisions'' : List ℕ) → decisions'' ≡ replicate d 0 ++ drop d decisions'
                → Decodes plate samples metrics decisions metrics'' decisions'' (Ok a)
            decoded metrics' decisions' a f m d em ed metrics'' x decisions'' y = (
              passes,
              best-word plate given samples size a f.word f.metric f.counts,
              zeroed plate given metrics decisions metrics' decisions' f.kept m d em ed metrics'' x decisions'' y,
            )
