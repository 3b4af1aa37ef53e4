-- What decoding replies, and what it leaves in the working rooms.
use Rattle.std.specs.Prelude.{ℕ, zero, suc, ◌*◌, ◌/◌, ◌^◌, ◌≤◌, ◌<◌, max, ℤ, pos, nat_abs, length, get_or, drop, replicate, ◌≤ℤ◌, List, [], ◌∷◌, ◌++◌, ◌⊎◌, ◌≡◌, Result, Ok, Err}
use Rattle.words.specs.Word.{Earlier}
use Rattle.plates.specs.declared.Plate.{Plate}
use Rattle.plates.specs.declared.Refusal.{Refusal}
use Rattle.plates.specs.declared.Refusal.TheVariants.{SampleCount, SampleRange, MetricRoom, DecisionRoom}
use Rattle.plates.specs.Prepare.{IsWord, not_prepared, rows_of}
use Rattle.plates.specs.Profile.{live_at}
use Rattle.plates.specs.Refusals.{Refuses, Passes}
use Rattle.trellises.specs.Branching.{trellis_of}
use Rattle.decoding.specs.declared.Answer.{Answer}
use Rattle.decoding.specs.Metric.{limit, metric_of}
use Rattle.decoding.specs.Totals.{branch_total, entering_less_one}

-- ---- the working room

-- the largest s(t) for t from 0 to n
abbrev pub widest_to : List ℕ → ℕ → ℕ
widest_to rows zero = live_at rows 0
widest_to rows (suc n) = max (live_at rows (suc n)) (widest_to rows n)

-- m
abbrev pub widest : Plate → ℕ
widest plate = widest_to (rows_of plate) plate.n

-- how many metrics decoding needs
abbrev pub metric_need : Plate → ℕ
metric_need plate = 2 * 2 ^ widest plate

-- how many decision words a section has: one decision bit a state
abbrev pub section_words : Plate → ℕ
section_words plate = max 1 (2 ^ widest plate / 64)

-- how many decision words decoding needs
abbrev pub decision_need : Plate → ℕ
decision_need plate = plate.n * section_words plate

-- ---- refusals 6 to 9

-- 6: the number of samples is not n
abbrev pub sample_count : Plate → List ℤ → Refusal → Type 0
sample_count plate samples q = (length samples ≡ plate.n → ⊥) × (q ≡ SampleCount)

-- 7: a sample is outside the limit; the place is the first such position
pub record SampleOver (samples : List ℤ) (q : Refusal) : Type 0 where
  pub position : ℕ
  pub there : position < length samples
  pub over : limit < nat_abs (get_or samples position (pos 0))
  pub first : (i : ℕ) → i < position → nat_abs (get_or samples i (pos 0)) ≤ limit
  pub is : q ≡ SampleRange position

-- 8: the metric room is too short
abbrev pub metric_room : Plate → List ℤ → Refusal → Type 0
metric_room plate metrics q = (length metrics < metric_need plate) × (q ≡ MetricRoom)

-- 9: the decision room is too short
abbrev pub decision_room : Plate → List ℕ → Refusal → Type 0
decision_room plate decisions q = (length decisions < decision_need plate) × (q ≡ DecisionRoom)

abbrev pub decode_conditions : Plate → List ℤ → List ℤ → List ℕ → List (Refusal → Type 0)
decode_conditions plate samples metrics decisions =
    not_prepared plate ∷ sample_count plate samples ∷ SampleOver samples ∷ metric_room plate metrics ∷ decision_room plate decisions ∷ []

-- ---- the reply

-- The word of greatest correlation among the words C, of equals the one with 0 at the first difference; its metric; and the counts of the
-- plate's trellis: an addition for each branch, and for each state past the start one comparison fewer than the branches entering it
pub record BestIn (C : ℕ → Type 0) (plate : Plate) (samples : List ℤ) (a : Answer) : Type 0 where
  pub codeword : C a.word
  pub metric : a.metric ≡ metric_of samples a.word
  pub greatest : (w : ℕ) → C w → metric_of samples w ≤ℤ a.metric
  pub earliest : (w : ℕ) → C w → metric_of samples w ≡ a.metric → (a.word ≡ w) ⊎ Earlier a.word w
  pub additions : a.counts.additions ≡ branch_total (trellis_of plate) plate.n
  pub comparisons : a.counts.comparisons ≡ entering_less_one (trellis_of plate) plate.n

-- the best of the plate's words
abbrev pub Best : Plate → List ℤ → Answer → Type 0
Best plate samples a = BestIn (IsWord plate) plate samples a

-- the needed room, the first so many places of each, is all zero, and the rest unchanged
pub record Zeroed (plate : Plate) (metrics metrics' : List ℤ) (decisions decisions' : List ℕ) : Type 0 where
  pub metrics_zero : metrics' ≡ replicate (metric_need plate) (pos 0) ++ drop (metric_need plate) metrics
  pub decisions_zero : decisions' ≡ replicate (decision_need plate) 0 ++ drop (decision_need plate) decisions

-- What decoding replies: the first refusal in order with both rooms unchanged, or the best with the needed room zeroed
abbrev pub Decodes : Plate → List ℤ → List ℤ → List ℕ → List ℤ → List ℕ → Result Answer Refusal → Type 0
Decodes plate samples metrics decisions metrics' decisions' (Err q) =
    Refuses (decode_conditions plate samples metrics decisions) q × (metrics' ≡ metrics) × (decisions' ≡ decisions)
Decodes plate samples metrics decisions metrics' decisions' (Ok a) =
    Passes (decode_conditions plate samples metrics decisions) × Best plate samples a × Zeroed plate metrics metrics' decisions decisions'
