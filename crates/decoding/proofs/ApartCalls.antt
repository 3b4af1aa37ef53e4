-- The replies of `best_metric_parts` and `best_word_parts`, case by case.
use Rattle.std.proofs.Common.{Result, Ok, Err}
use lib.Bits.{bit_xor}
use lib.IntN.{pos, ℤ}
use lib.ListN.{drop, length, replicate}
use lib.Signed.{◌≤ℤ◌}
use mathlib.Core.List.{◌++◌, List, []}
use mathlib.Core.Logic.{inl, inr}
use mathlib.Core.Path.{refl, subst, sym, ◌∙◌, ◌≡◌}
use native.Mathlib.Omega.{arith}
use Prim.Native.Nat.{◌<◌, ℕ, ◌≤◌}
use Rattle.decoding.proofs.BestWord.{best-word}
use Rattle.decoding.proofs.MetricBounds.{Within}
use Rattle.decoding.proofs.MaskedWords.{rest_of}
use Rattle.decoding.proofs.PlateSizes.{plate_sizes}
use Rattle.decoding.proofs.SampleLimits.{within-passes}
use Rattle.decoding.proofs.ZeroedRooms.{metrics-zeroed}
use Rattle.decoding.specs.Apart.{BestSelection, BestMetric, Chooses, Measures, metric_conditions}
use Rattle.decoding.specs.Backward.{word_from}
use Rattle.decoding.specs.declared.Answer.{Answer}
use Rattle.decoding.specs.declared.apart.Measure.{Measure}
use Rattle.decoding.specs.Decode.{Best, Decodes, SampleOver, metric_need}
use Rattle.decoding.specs.Metric.{limit, metric_of}
use Rattle.decoding.specs.Searching.{IsFirstOver, MetricSearched}
use Rattle.decoding.specs.Sweeping.{RoomsFit, undecided}
use Rattle.decoding.specs.Turning.{turned_by}
use Rattle.plates.specs.declared.Plate.{Plate}
use Rattle.plates.specs.declared.Refusal.{Refusal}
use Rattle.plates.specs.declared.Refusal.TheVariants.{MetricRoom, NotPrepared, SampleCount, SampleRange}
use Rattle.plates.specs.Prepare.{IsPrepared, rows_of}
use Rattle.plates.specs.Refusals.{Passes}
use Rattle.trellises.specs.SectionOf.{section_of}

-- ---- the metric

module _ (plate : Plate) (samples metrics : List ℤ) where
  pub refused-5 : (IsPrepared plate → ⊥) → Measures plate samples metrics metrics (Err NotPrepared)
  refused-5 n = (inl (n, refl), refl)

  module _ (given : IsPrepared plate) where
    pub refused-6 : (length samples ≡ plate.n → ⊥) → Measures plate samples metrics metrics (Err SampleCount)
    refused-6 n = (inr ((λ q b. b.0 given), inl (n, refl)), refl)

    module _ (size : length samples ≡ plate.n) where
      pub refused-7 : {over : ℕ} → IsFirstOver samples over → Measures plate samples metrics metrics (Err (SampleRange over))
      refused-7 {over} found =
          (inr ((λ q b. b.0 given), inr ((λ q b. b.0 size), inl (record { position = over; there = found.there; over = found.here; first = found.before; is = refl }))), refl)

      module _ (samples-within : Within limit samples) where
        no-sample-over : (q : Refusal) → SampleOver samples q → ⊥
        no-sample-over = within-passes samples samples-within

        pub refused-8 : length metrics < metric_need plate → Measures plate samples metrics metrics (Err MetricRoom)
        refused-8 h = (inr ((λ q b. b.0 given), inr ((λ q b. b.0 size), inr (no-sample-over, inl (h, refl)))), refl)

        module _ (metric_room : metric_need plate ≤ length metrics) where
          pub room_fits : RoomsFit (undecided (plate_sizes plate given)) samples metrics []
          room_fits = record { size = size; within = λ i k. omega (arith, samples-within i k); metric_room = omega (arith, metric_room); decision_room = omega arith }

          passes : Passes (metric_conditions plate samples metrics)
          passes = ((λ q b. b.0 given), ((λ q b. b.0 size), (no-sample-over, ((λ q b. omega (arith, b.0, metric_room)), tt))))

          pub measured : (metrics' : List ℤ) (m : Measure) → MetricSearched plate.rows (plate_sizes plate given) samples metrics metrics' m
              → (d : ℕ) → d ≡ metric_need plate → (metrics'' : List ℤ) → metrics'' ≡ replicate d (pos 0) ++ drop d metrics'
              → Measures plate samples metrics metrics'' (Ok m)
          measured metrics' m f d e metrics'' x = (
            passes,
            best-metric,
            metrics-zeroed plate given metrics metrics' f.size f.rest d e metrics'' x,
          )
            where
              -- the word that decoding finds has this metric
              answer : Answer
              answer = record {
                word = bit_xor (word_from (section_of (rows_of plate)) (turned_by (rest_of plate) samples) 0 0) (rest_of plate);
                metric = m.metric;
                counts = m.counts;
              }

              its-best : Best plate samples answer
              its-best = best-word plate given samples size answer refl f.metric f.counts

              best-metric : BestMetric plate samples m
              best-metric = record {
                word = answer.word;
                codeword = its-best.codeword;
                metric = its-best.metric;
                greatest = its-best.greatest;
                additions = its-best.additions;
                comparisons = its-best.comparisons;
              }

-- ---- the word

module _ (plate : Plate) (samples metrics : List ℤ) (decisions : List ℕ) where
  -- the answer of decoding without its metric
  pub chosen_of : (a : Answer) → Best plate samples a → BestSelection plate samples (record { word = a.word; counts = a.counts })
  chosen_of a b = record {
    codeword = b.codeword;
    greatest = λ w h. subst (λ (z : ℤ). metric_of samples w ≤ℤ z) b.metric (b.greatest w h);
    earliest = λ w h e. b.earliest w h (e ∙ sym b.metric);
    additions = b.additions;
    comparisons = b.comparisons;
  }

  module _ (metrics' : List ℤ) (decisions' : List ℕ) (r : Result Answer Refusal) (d : Decodes plate samples metrics decisions metrics' decisions' r) where
    pub chosen : (a : Answer) → r ≡ Ok a → Chooses plate samples metrics decisions metrics' decisions' (Ok (record { word = a.word; counts = a.counts }))
    chosen a e = let x = subst (Decodes plate samples metrics decisions metrics' decisions') e d in (x.0, chosen_of a x.1, x.2)

    pub refused : (q : Refusal) → r ≡ Err q → Chooses plate samples metrics decisions metrics' decisions' (Err q)
    refused q e = subst (Decodes plate samples metrics decisions metrics' decisions') e d
