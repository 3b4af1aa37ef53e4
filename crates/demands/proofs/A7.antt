-- Metric without the word (document 02, A7): `best_metric` refuses exactly under 5 to 8 and `best_word` under 5 to 9, in this order, and both
-- change nothing then; together they say what decoding says; each reports the counts of demand 3; they leave their rooms as decoding does.
use Rattle.std.proofs.Common.{Result, Ok, Err}
use lib.IntN.{nat_abs, pos, ℤ}
use lib.ListN.{drop, get_or, length, replicate}
use lib.Signed.{◌≤ℤ◌}
use mathlib.Core.List.{◌++◌, List, [], ◌∷◌}
use mathlib.Core.Logic.{◌⊎◌}
use mathlib.Core.Path.{ap, refl, subst, ◌≡◌}
use native.Mathlib.Omega.{arith}
use Prim.Native.Nat.{◌<◌, ℕ, ◌≤◌}
use Rattle.decoding.proofs.ApartDetermined.{metric-determined, word-determined}
use Rattle.decoding.proofs.ApartTogether.{decode-refusal, metric-agrees, metric-refusal, together, word-agrees}
use Rattle.decoding.proofs.SampleLimits.{samples-are-n}
use Rattle.decoding.specs.Apart.{Chooses, Measures, metric_conditions}
use Rattle.decoding.specs.declared.Answer.{Answer}
use Rattle.decoding.specs.declared.apart.Measure.{Measure}
use Rattle.decoding.specs.declared.apart.Selection.{Selection}
use Rattle.decoding.specs.Decode.{Decodes, decision_need, decode_conditions, metric_need}
use Rattle.decoding.specs.Metric.{limit, metric_of}
use Rattle.decoding.specs.Totals.{branch_total, entering_less_one}
use Rattle.demands.proofs.Demand1.{decode-numbers, its-number}
use Rattle.demands.proofs.StepCounts.{steps-additions, steps-comparisons}
use Rattle.demands.specs.Refusing.{Numbered, RefusesExactly}
use Rattle.plates.proofs.Refusing.{never_both}
use Rattle.plates.specs.Code.{InCode, Masked}
use Rattle.plates.specs.declared.Kind.{Kind}
use Rattle.plates.specs.declared.Plate.{Plate}
use Rattle.plates.specs.declared.Prepared.{Prepared}
use Rattle.plates.specs.declared.Refusal.{Refusal}
use Rattle.plates.specs.declared.Refusal.TheVariants.{DecisionRoom}
use Rattle.plates.specs.Prepare.{IsPrepared, Prepares}
use Rattle.plates.specs.Refusals.{Passes, Refuses, number}
use Rattle.trellises.proofs.WordsTrellis.{accepted-words}
use Rattle.trellises.specs.Branching.{trellis_of}

-- ---- the metric: 5 to 8

module _ (plate : Plate) (samples metrics : List ℤ) where
  -- the conditions, in order
  pub metric-numbers : Numbered (metric_conditions plate samples metrics) (5 ∷ 6 ∷ 7 ∷ 8 ∷ [])
  metric-numbers = (its-number, (its-number, ((λ q c. ap number c.is), (its-number, tt))))

  -- where none of them holds: a prepared plate, n samples within the limit, and a metric room that is long enough
  pub metric-passes : IsPrepared plate → length samples ≡ plate.n → ((i : ℕ) → i < length samples → nat_abs (get_or samples i (pos 0)) ≤ limit)
      → metric_need plate ≤ length metrics → Passes (metric_conditions plate samples metrics)
  metric-passes p size within m =
      ((λ q c. c.0 p), ((λ q c. c.0 size), ((λ q c. omega (arith, c.over, within c.position c.there)), ((λ q c. omega (arith, c.0, m)), tt))))

  -- the room after the call, and its reply
  module _ (metrics' : List ℤ) (r : Result Measure Refusal) (p : Measures plate samples metrics metrics' r) where
    -- refused exactly under them
    pub metric-refuses-exactly : RefusesExactly Err (metric_conditions plate samples metrics) r
    metric-refuses-exactly q = (
      (λ e. (subst (Measures plate samples metrics metrics') e p).0),
      λ h. (metric-determined plate samples metrics r (Err q) metrics' metrics p (h, refl)).0,
    )

    -- where none of them holds the metric is found
    pub metric-passed-found : Passes (metric_conditions plate samples metrics) → (m : Measure) × (r ≡ Ok m)
    metric-passed-found h = go r refl
      where
        go : (s : Result Measure Refusal) → r ≡ s → (m : Measure) × (r ≡ Ok m)
        go (Ok m) e = (m, e)
        go (Err q) e = absurd (never_both (metric_conditions plate samples metrics) h q ((metric-refuses-exactly q).0 e))

    -- a refused call changes nothing lent
    pub metric-refused-unchanged : (q : Refusal) → r ≡ Err q → metrics' ≡ metrics
    metric-refused-unchanged q e = (subst (Measures plate samples metrics metrics') e p).1

    -- one that succeeds zeroes the room it needs, and touches no more
    pub metric-found-zeroes : (m : Measure) → r ≡ Ok m → metrics' ≡ replicate (metric_need plate) (pos 0) ++ drop (metric_need plate) metrics
    metric-found-zeroes m e = (subst (Measures plate samples metrics metrics') e p).2

-- ---- the word: 5 to 9

module _ (plate : Plate) (samples metrics : List ℤ) (decisions : List ℕ) where
  -- the conditions, in order; they are decode's, so that decode-passes says where none of them holds
  pub word-numbers : Numbered (decode_conditions plate samples metrics decisions) (5 ∷ 6 ∷ 7 ∷ 8 ∷ 9 ∷ [])
  word-numbers = decode-numbers plate samples metrics decisions

  -- the two rooms after the call, and its reply
  module _ (metrics' : List ℤ) (decisions' : List ℕ) (r : Result Selection Refusal) (p : Chooses plate samples metrics decisions metrics' decisions' r) where
    -- refused exactly under them
    pub word-refuses-exactly : RefusesExactly Err (decode_conditions plate samples metrics decisions) r
    word-refuses-exactly q = (
      (λ e. (subst (Chooses plate samples metrics decisions metrics' decisions') e p).0),
      λ h. (word-determined plate samples metrics decisions r (Err q) metrics' metrics decisions' decisions p (h, refl, refl)).0,
    )

    -- where none of them holds the word is found
    pub word-passed-found : Passes (decode_conditions plate samples metrics decisions) → (c : Selection) × (r ≡ Ok c)
    word-passed-found h = go r refl
      where
        go : (s : Result Selection Refusal) → r ≡ s → (c : Selection) × (r ≡ Ok c)
        go (Ok c) e = (c, e)
        go (Err q) e = absurd (never_both (decode_conditions plate samples metrics decisions) h q ((word-refuses-exactly q).0 e))

    -- a refused call changes nothing lent
    pub word-refused-unchanged : (q : Refusal) → r ≡ Err q → (metrics' ≡ metrics) × (decisions' ≡ decisions)
    word-refused-unchanged q e = let x = subst (Chooses plate samples metrics decisions metrics' decisions') e p in (x.1, x.2)

    -- one that succeeds zeroes the room it needs, as decoding does, and touches no more
    pub word-found-zeroes : (c : Selection) → r ≡ Ok c
        → (metrics' ≡ replicate (metric_need plate) (pos 0) ++ drop (metric_need plate) metrics)
        × (decisions' ≡ replicate (decision_need plate) 0 ++ drop (decision_need plate) decisions)
    word-found-zeroes c e =
        let x = subst (Chooses plate samples metrics decisions metrics' decisions') e p in (x.2.metrics_zero, x.2.decisions_zero)

-- ---- both, and decode

module _ (plate : Plate) (samples : List ℤ) where
  -- the metric call gives the metric and the counts of decode's answer, whatever the rooms
  pub metric-is-decodes : (room room' metrics metrics' : List ℤ) (decisions decisions' : List ℕ) (m : Measure) (a : Answer)
      → Measures plate samples room room' (Ok m) → Decodes plate samples metrics decisions metrics' decisions' (Ok a)
      → (m.metric ≡ a.metric) × (m.counts ≡ a.counts)
  metric-is-decodes = metric-agrees plate samples

  -- the word call gives its word and its counts
  pub word-is-decodes : (metrics : List ℤ) (decisions : List ℕ) (room room' metrics' : List ℤ) (words words' decisions' : List ℕ) (c : Selection) (a : Answer)
      → Chooses plate samples room words room' words' (Ok c) → Decodes plate samples metrics decisions metrics' decisions' (Ok a)
      → (c.word ≡ a.word) × (c.counts ≡ a.counts)
  word-is-decodes = word-agrees plate samples

  -- the two replies make up a reply of decode, with the rooms that the word call leaves; their counts are the same
  pub both-are-decode : (room room' metrics metrics' : List ℤ) (decisions decisions' : List ℕ) (m : Measure) (c : Selection)
      → Measures plate samples room room' (Ok m) → Chooses plate samples metrics decisions metrics' decisions' (Ok c)
      → Decodes plate samples metrics decisions metrics' decisions' (Ok (record { word = c.word; metric = m.metric; counts = c.counts }))
      × (m.counts ≡ c.counts)
  both-are-decode = together plate samples

  -- what refuses the metric call refuses decode so
  pub metric-refused-decode-refused : (metrics : List ℤ) (decisions : List ℕ) (q : Refusal)
      → Refuses (metric_conditions plate samples metrics) q → Refuses (decode_conditions plate samples metrics decisions) q
  metric-refused-decode-refused = metric-refusal plate samples

  -- and what refuses decode refuses the metric call so, or it is the decision room that is too short
  pub decode-refused-metric-refused : (metrics : List ℤ) (decisions : List ℕ) (q : Refusal) → Refuses (decode_conditions plate samples metrics decisions) q
      → Refuses (metric_conditions plate samples metrics) q ⊎ ((length decisions < decision_need plate) × (q ≡ DecisionRoom))
  decode-refused-metric-refused = decode-refusal plate samples

-- ---- over the words that a mask makes of the code of a matrix, where preparing both accepts

module _ (n : ℕ) (kind : Kind) (rows : List ℕ) (mask : ℕ) (r : Prepared) (p : Prepares n kind rows mask r) (e : r.verdict ≡ Ok tt)
    (samples metrics metrics' : List ℤ) where
  module _ (m : Measure) (d : Measures r.plate samples metrics metrics' (Ok m)) where
    size : length samples ≡ r.plate.n
    size = samples-are-n r.plate samples d.0.1.0

    -- the metric is that of a word, and no word has a greater one
    pub metric-attained : (w : ℕ) × Masked (InCode kind n rows) mask w × (m.metric ≡ metric_of samples w)
    metric-attained = (d.1.word, (accepted-words n kind rows mask r p e d.1.word).1 d.1.codeword, d.1.metric)

    pub metric-greatest : (w : ℕ) → Masked (InCode kind n rows) mask w → metric_of samples w ≤ℤ m.metric
    metric-greatest w c = d.1.greatest w ((accepted-words n kind rows mask r p e w).0 c)

    -- one addition for each branch, and for each state past the start one comparison fewer than the branches entering it
    pub metric-additions : m.counts.additions ≡ branch_total (trellis_of r.plate) n
    metric-additions = steps-additions n kind rows mask r p e samples size m.counts d.1.additions d.1.comparisons

    pub metric-comparisons : m.counts.comparisons ≡ entering_less_one (trellis_of r.plate) n
    metric-comparisons = steps-comparisons n kind rows mask r p e samples size m.counts d.1.additions d.1.comparisons

  module _ (decisions decisions' : List ℕ) (c : Selection) (d : Chooses r.plate samples metrics decisions metrics' decisions' (Ok c)) where
    counted-n : length samples ≡ r.plate.n
    counted-n = samples-are-n r.plate samples d.0.1.0

    -- the same of the word call
    pub word-additions : c.counts.additions ≡ branch_total (trellis_of r.plate) n
    word-additions = steps-additions n kind rows mask r p e samples counted-n c.counts d.1.additions d.1.comparisons

    pub word-comparisons : c.counts.comparisons ≡ entering_less_one (trellis_of r.plate) n
    word-comparisons = steps-comparisons n kind rows mask r p e samples counted-n c.counts d.1.additions d.1.comparisons
