-- Decoding parted into two calls: the metric without the word, and the word without its metric.
use Rattle.std.specs.Prelude.{ℕ, ℤ, pos, drop, replicate, ◌≤ℤ◌, List, [], ◌∷◌, ◌++◌, ◌⊎◌, ◌≡◌, Result, Ok, Err}
use Rattle.words.specs.Word.{Earlier}
use Rattle.plates.specs.declared.Plate.{Plate}
use Rattle.plates.specs.declared.Refusal.{Refusal}
use Rattle.plates.specs.Prepare.{IsWord, not_prepared}
use Rattle.plates.specs.Refusals.{Refuses, Passes}
use Rattle.trellises.specs.Branching.{trellis_of}
use Rattle.decoding.specs.declared.apart.Selection.{Selection}
use Rattle.decoding.specs.declared.apart.Measure.{Measure}
use Rattle.decoding.specs.Decode.{SampleOver, Zeroed, decode_conditions, metric_need, metric_room, sample_count}
use Rattle.decoding.specs.Metric.{metric_of}
use Rattle.decoding.specs.Totals.{branch_total, entering_less_one}

-- ---- the metric

-- refusals 5 to 8: there is no decision room
abbrev pub metric_conditions : Plate → List ℤ → List ℤ → List (Refusal → Type 0)
metric_conditions plate samples metrics = not_prepared plate ∷ sample_count plate samples ∷ SampleOver samples ∷ metric_room plate metrics ∷ []

-- The greatest correlation of any of the words C, and the counts of the plate's trellis
pub record BestMetricIn (C : ℕ → Type 0) (plate : Plate) (samples : List ℤ) (m : Measure) : Type 0 where
  pub word : ℕ
  pub codeword : C word
  pub metric : m.metric ≡ metric_of samples word
  pub greatest : (w : ℕ) → C w → metric_of samples w ≤ℤ m.metric
  pub additions : m.counts.additions ≡ branch_total (trellis_of plate) plate.n
  pub comparisons : m.counts.comparisons ≡ entering_less_one (trellis_of plate) plate.n

-- of any word of the plate
abbrev pub BestMetric : Plate → List ℤ → Measure → Type 0
BestMetric plate samples m = BestMetricIn (IsWord plate) plate samples m

-- What the metric call replies: the first refusal in order with the room unchanged, or the best metric with the needed room, the first so
-- many places, all zero and the rest unchanged
abbrev pub Measures : Plate → List ℤ → List ℤ → List ℤ → Result Measure Refusal → Type 0
Measures plate samples metrics metrics' (Err q) = Refuses (metric_conditions plate samples metrics) q × (metrics' ≡ metrics)
Measures plate samples metrics metrics' (Ok m) =
    Passes (metric_conditions plate samples metrics) × BestMetric plate samples m
    × (metrics' ≡ replicate (metric_need plate) (pos 0) ++ drop (metric_need plate) metrics)

-- ---- the word

-- The word of greatest correlation among the words C, of equals the one with 0 at the first difference; and the counts of the plate's trellis
pub record BestSelectionIn (C : ℕ → Type 0) (plate : Plate) (samples : List ℤ) (c : Selection) : Type 0 where
  pub codeword : C c.word
  pub greatest : (w : ℕ) → C w → metric_of samples w ≤ℤ metric_of samples c.word
  pub earliest : (w : ℕ) → C w → metric_of samples w ≡ metric_of samples c.word → (c.word ≡ w) ⊎ Earlier c.word w
  pub additions : c.counts.additions ≡ branch_total (trellis_of plate) plate.n
  pub comparisons : c.counts.comparisons ≡ entering_less_one (trellis_of plate) plate.n

-- the best of the plate's words
abbrev pub BestSelection : Plate → List ℤ → Selection → Type 0
BestSelection plate samples c = BestSelectionIn (IsWord plate) plate samples c

-- What the word call replies: the first refusal in order, 5 to 9, with both rooms unchanged, or the best word with the needed room zeroed
abbrev pub Chooses : Plate → List ℤ → List ℤ → List ℕ → List ℤ → List ℕ → Result Selection Refusal → Type 0
Chooses plate samples metrics decisions metrics' decisions' (Err q) =
    Refuses (decode_conditions plate samples metrics decisions) q × (metrics' ≡ metrics) × (decisions' ≡ decisions)
Chooses plate samples metrics decisions metrics' decisions' (Ok c) =
    Passes (decode_conditions plate samples metrics decisions) × BestSelection plate samples c × Zeroed plate metrics metrics' decisions decisions'
