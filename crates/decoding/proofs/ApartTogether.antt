-- The metric call and the word call together say what `decode` says of the same plate and samples.
use Rattle.std.proofs.Common.{Ok}
use lib.IntN.{ℤ}
use lib.ListN.{length}
use lib.Signed.{◌≤ℤ◌}
use mathlib.Core.List.{List}
use mathlib.Core.Logic.{inl, inr, ◌⊎◌}
use mathlib.Core.Path.{ap, subst, sym, ◌∙◌, ◌≡◌}
use Prim.Native.Nat.{◌<◌, ℕ}
use Rattle.decoding.proofs.ApartDetermined.{answer-best, answer_of}
use Rattle.decoding.proofs.DecodeDetermined.{answer-same, counts_same}
use Rattle.decoding.proofs.IntegerOrder.{≤ℤ-antisym}
use Rattle.decoding.specs.Apart.{BestMetric, Chooses, Measures, metric_conditions}
use Rattle.decoding.specs.declared.Answer.{Answer}
use Rattle.decoding.specs.declared.apart.Measure.{Measure}
use Rattle.decoding.specs.declared.apart.Selection.{Selection}
use Rattle.decoding.specs.Decode.{Best, Decodes, decision_need, decode_conditions}
use Rattle.plates.specs.declared.Plate.{Plate}
use Rattle.plates.specs.declared.Refusal.{Refusal}
use Rattle.plates.specs.declared.Refusal.TheVariants.{DecisionRoom}
use Rattle.plates.specs.Refusals.{Refuses}

module _ (plate : Plate) (samples : List ℤ) where
  -- the best metric is the best word's
  metric-of-word : (m : Measure) (a : Answer) → BestMetric plate samples m → Best plate samples a → m.metric ≡ a.metric
  metric-of-word m a x y =
      ≤ℤ-antisym (subst (λ (z : ℤ). z ≤ℤ a.metric) (sym x.metric) (y.greatest x.word x.codeword))
      (subst (λ (z : ℤ). z ≤ℤ m.metric) (sym y.metric) (x.greatest a.word y.codeword))

  module _ (room room' metrics metrics' : List ℤ) (decisions decisions' : List ℕ) where
    -- the metric and the counts of decode's answer, whatever the rooms of the two calls
    pub metric-agrees : (m : Measure) (a : Answer) → Measures plate samples room room' (Ok m) → Decodes plate samples metrics decisions metrics' decisions' (Ok a)
        → (m.metric ≡ a.metric) × (m.counts ≡ a.counts)
    metric-agrees m a x y = (metric-of-word m a x.1 y.1, counts_same (x.1.additions ∙ sym y.1.additions) (x.1.comparisons ∙ sym y.1.comparisons))

    -- the two replies make up a reply of decode, with the rooms that the word call leaves; their counts are the same
    pub together : (m : Measure) (c : Selection) → Measures plate samples room room' (Ok m) → Chooses plate samples metrics decisions metrics' decisions' (Ok c)
        → Decodes plate samples metrics decisions metrics' decisions' (Ok (record { word = c.word; metric = m.metric; counts = c.counts })) × (m.counts ≡ c.counts)
    together m c x y = (
      (
        y.0,
        subst (λ (z : ℤ). Best plate samples (record { word = c.word; metric = z; counts = c.counts }))
            (sym (metric-of-word m (answer_of samples c) x.1 (answer-best plate samples c y.1))) (answer-best plate samples c y.1),
        y.2,
      ),
      counts_same (x.1.additions ∙ sym y.1.additions) (x.1.comparisons ∙ sym y.1.comparisons),
    )

  module _ (metrics : List ℤ) (decisions : List ℕ) where
    -- the word and the counts of decode's answer, whatever the rooms of the two calls
    pub word-agrees : (room room' metrics' : List ℤ) (words words' decisions' : List ℕ) (c : Selection) (a : Answer)
        → Chooses plate samples room words room' words' (Ok c) → Decodes plate samples metrics decisions metrics' decisions' (Ok a)
        → (c.word ≡ a.word) × (c.counts ≡ a.counts)
    word-agrees room room' metrics' words words' decisions' c a x y =
        let e = answer-same plate samples metrics decisions (answer_of samples c) a (answer-best plate samples c x.1) y.1 in
        (ap (λ (b : Answer). b.word) e, counts_same (x.1.additions ∙ sym y.1.additions) (x.1.comparisons ∙ sym y.1.comparisons))

    -- what refuses the metric call refuses decode with the same number and place
    pub metric-refusal : (q : Refusal) → Refuses (metric_conditions plate samples metrics) q → Refuses (decode_conditions plate samples metrics decisions) q
    metric-refusal q (inl a) = inl a
    metric-refusal q (inr (a, inl b)) = inr (a, inl b)
    metric-refusal q (inr (a, inr (b, inl c))) = inr (a, inr (b, inl c))
    metric-refusal q (inr (a, inr (b, inr (c, inl d)))) = inr (a, inr (b, inr (c, inl d)))
    metric-refusal q (inr (a, inr (b, inr (c, inr (d, none))))) = absurd none

    -- and what refuses decode refuses the metric call so, or it is the decision room that is too short
    pub decode-refusal : (q : Refusal) → Refuses (decode_conditions plate samples metrics decisions) q
        → Refuses (metric_conditions plate samples metrics) q ⊎ ((length decisions < decision_need plate) × (q ≡ DecisionRoom))
    decode-refusal q (inl a) = inl (inl a)
    decode-refusal q (inr (a, inl b)) = inl (inr (a, inl b))
    decode-refusal q (inr (a, inr (b, inl c))) = inl (inr (a, inr (b, inl c)))
    decode-refusal q (inr (a, inr (b, inr (c, inl d)))) = inl (inr (a, inr (b, inr (c, inl d))))
    decode-refusal q (inr (a, inr (b, inr (c, inr (d, inl e))))) = inr e
    decode-refusal q (inr (a, inr (b, inr (c, inr (d, inr (e, none)))))) = absurd none
