-- Determined: two replies of `best_metric_parts`, and two of `best_word_parts`, with the rooms, that meet their promise are equal.
use Rattle.std.proofs.Common.{Result, Ok, Err}
use Rattle.plates.specs.declared.Refusal.{Refusal}
use lib.IntN.{ℤ}
use lib.Signed.{◌≤ℤ◌}
use mathlib.Core.List.{List, []}
use mathlib.Core.Path.{ap, ap₂, refl, subst, sym, ◌∙◌, ◌≡◌}
use Prim.Native.Nat.{ℕ}
use Rattle.decoding.proofs.DecodeDetermined.{answer-same, counts_same, sample-once, single}
use Rattle.decoding.proofs.IntegerOrder.{≤ℤ-antisym}
use Rattle.decoding.specs.Apart.{BestMetric, BestSelection, Chooses, Measures, metric_conditions}
use Rattle.decoding.specs.declared.Answer.{Answer}
use Rattle.decoding.specs.declared.apart.Measure.{Measure}
use Rattle.decoding.specs.declared.apart.Selection.{Selection}
use Rattle.decoding.specs.declared.Counts.{Counts}
use Rattle.decoding.specs.Decode.{Best, decode_conditions}
use Rattle.decoding.specs.Metric.{metric_of}
use Rattle.plates.proofs.Refusing.{Single, never_both, refuses-once}
use Rattle.plates.specs.declared.Plate.{Plate}

-- ---- the metric

module _ (plate : Plate) (samples metrics : List ℤ) where
  single-metric : Single (metric_conditions plate samples metrics)
  single-metric = ((λ p q x y. x.1 ∙ sym y.1), ((λ p q x y. x.1 ∙ sym y.1), (sample-once plate samples metrics [], ((λ p q x y. x.1 ∙ sym y.1), tt))))

  -- each of two greatest metrics is at most the other
  measure-same : (m n : Measure) → BestMetric plate samples m → BestMetric plate samples n → m ≡ n
  measure-same m n x y =
      ap₂ (λ (z : ℤ) (k : Counts). record { metric = z; counts = k })
      (≤ℤ-antisym (subst (λ (z : ℤ). z ≤ℤ n.metric) (sym x.metric) (y.greatest x.word x.codeword))
      (subst (λ (z : ℤ). z ≤ℤ m.metric) (sym y.metric) (x.greatest y.word y.codeword)))
      (counts_same (x.additions ∙ sym y.additions) (x.comparisons ∙ sym y.comparisons))

  pub metric-determined : (r s : Result Measure Refusal) (m n : List ℤ) → Measures plate samples metrics m r → Measures plate samples metrics n s → (r ≡ s) × (m ≡ n)
  metric-determined (Ok a) (Ok b) m n x y = (ap Ok (measure-same a b x.1 y.1), x.2 ∙ sym y.2)
  metric-determined (Ok a) (Err q) m n x y = absurd (never_both (metric_conditions plate samples metrics) x.0 q y.0)
  metric-determined (Err p) (Ok b) m n x y = absurd (never_both (metric_conditions plate samples metrics) y.0 p x.0)
  metric-determined (Err p) (Err q) m n x y =
      (ap Err (refuses-once (metric_conditions plate samples metrics) single-metric p q x.0 y.0), x.1 ∙ sym y.1)

-- ---- the word

-- a selection with the metric of its word is an answer of decoding
abbrev pub answer_of : List ℤ → Selection → Answer
answer_of samples c = record { word = c.word; metric = metric_of samples c.word; counts = c.counts }

pub answer-best : (plate : Plate) (samples : List ℤ) (c : Selection) → BestSelection plate samples c → Best plate samples (answer_of samples c)
answer-best plate samples c b = record { codeword = b.codeword; metric = refl; greatest = b.greatest; earliest = b.earliest; additions = b.additions; comparisons = b.comparisons }

module _ (plate : Plate) (samples metrics : List ℤ) (decisions : List ℕ) where
  selection-same : (c d : Selection) → BestSelection plate samples c → BestSelection plate samples d → c ≡ d
  selection-same c d x y =
      ap (λ (a : Answer). record { word = a.word; counts = a.counts })
      (answer-same plate samples metrics decisions (answer_of samples c) (answer_of samples d) (answer-best plate samples c x) (answer-best plate samples d y))

  pub word-determined : (r s : Result Selection Refusal) (m n : List ℤ) (d e : List ℕ) → Chooses plate samples metrics decisions m d r → Chooses plate samples metrics decisions n e s
      → (r ≡ s) × (m ≡ n) × (d ≡ e)
  word-determined (Ok a) (Ok b) m n d e x y =
      (ap Ok (selection-same a b x.1 y.1), x.2.metrics_zero ∙ sym y.2.metrics_zero, x.2.decisions_zero ∙ sym y.2.decisions_zero)
  word-determined (Ok a) (Err q) m n d e x y = absurd (never_both (decode_conditions plate samples metrics decisions) x.0 q y.0)
  word-determined (Err p) (Ok b) m n d e x y = absurd (never_both (decode_conditions plate samples metrics decisions) y.0 p x.0)
  word-determined (Err p) (Err q) m n d e x y =
      (ap Err (refuses-once (decode_conditions plate samples metrics decisions) (single plate samples metrics decisions) p q x.0 y.0), x.1 ∙ sym y.1, x.2 ∙ sym y.2)
