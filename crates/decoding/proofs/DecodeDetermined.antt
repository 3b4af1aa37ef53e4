-- Determined: two replies of `decode`, with both rooms, that meet its promise are equal.
use Rattle.std.proofs.Common.{Result, Ok, Err}
use lib.IntN.{ℤ}
use lib.Signed.{◌≤ℤ◌}
use mathlib.Core.List.{List}
use mathlib.Core.Logic.{inl, inr, ◌⊎◌}
use mathlib.Core.Path.{ap, ap₂, subst, sym, ◌∙◌, ◌≡◌}
use native.Mathlib.Omega.{arith}
use Prim.Native.Nat.{◌<◌, ℕ}
use Rattle.decoding.proofs.IntegerOrder.{≤ℤ-antisym}
use Rattle.decoding.specs.declared.Answer.{Answer}
use Rattle.decoding.specs.declared.Counts.{Counts}
use Rattle.decoding.specs.Decode.{Best, Decodes, SampleOver, decode_conditions}
use Rattle.decoding.specs.Metric.{metric_of}
use Rattle.plates.proofs.OnePlate.{not-both}
use Rattle.plates.proofs.Refusing.{Single, never_both, refuses-once}
use Rattle.plates.specs.declared.Plate.{Plate}
use Rattle.plates.specs.declared.Refusal.{Refusal}
use Rattle.plates.specs.declared.Refusal.TheVariants.{SampleRange}
use Rattle.words.proofs.Span.{lt-tri}
use Rattle.words.specs.Word.{Earlier}

pub counts_same : {j k : Counts} → j.additions ≡ k.additions → j.comparisons ≡ k.comparisons → j ≡ k
counts_same {j} {k} a c = ap₂ (λ (x y : ℕ). record { additions = x; comparisons = y }) a c

module _ (plate : Plate) (samples metrics : List ℤ) (decisions : List ℕ) where
  abbrev conditions : List (Refusal → Type 0)
  conditions = decode_conditions plate samples metrics decisions

  -- the first sample that is over is one
  pub sample-once : (p q : Refusal) → SampleOver samples p → SampleOver samples q → p ≡ q
  sample-once p q x y = x.is ∙ ap SampleRange (go (lt-tri x.position y.position)) ∙ sym y.is
    where
      go : (x.position < y.position) ⊎ ((x.position ≡ y.position) ⊎ (y.position < x.position)) → x.position ≡ y.position
      go (inl h) = absurd (omega (arith, y.first x.position h, x.over))
      go (inr (inl e)) = e
      go (inr (inr h)) = absurd (omega (arith, x.first y.position h, y.over))

  pub single : Single (decode_conditions plate samples metrics decisions)
  single = ((λ p q x y. x.1 ∙ sym y.1), ((λ p q x y. x.1 ∙ sym y.1), (sample-once, ((λ p q x y. x.1 ∙ sym y.1), ((λ p q x y. x.1 ∙ sym y.1), tt)))))

  -- neither of two words can be earlier than the other
  best-word-same : (a b : Answer) → Best plate samples a → Best plate samples b → a.word ≡ b.word
  best-word-same a b x y = go (x.earliest b.word y.codeword tie) (y.earliest a.word x.codeword (sym x.metric ∙ metrics_same))
    where
      metrics_same : a.metric ≡ b.metric
      metrics_same = ≤ℤ-antisym (subst (λ (m : ℤ). m ≤ℤ b.metric) (sym x.metric) (y.greatest a.word x.codeword)) (subst (λ (m : ℤ). m ≤ℤ a.metric) (sym y.metric) (x.greatest b.word y.codeword))

      tie : metric_of samples b.word ≡ a.metric
      tie = sym y.metric ∙ sym metrics_same

      go : (a.word ≡ b.word) ⊎ Earlier a.word b.word → (b.word ≡ a.word) ⊎ Earlier b.word a.word → a.word ≡ b.word
      go (inl e) s = e
      go (inr s) (inl e) = sym e
      go (inr s) (inr t) = absurd (not-both a.word b.word s t)

  pub answer-same : (a b : Answer) → Best plate samples a → Best plate samples b → a ≡ b
  answer-same a b x y =
      let e : a.word ≡ b.word = best-word-same a b x y in
      ap₂ (λ (w : ℕ) (m : ℤ). record { word = w; metric = m; counts = a.counts }) e (x.metric ∙ ap (metric_of samples) e ∙ sym y.metric)
      ∙ ap (λ (k : Counts). record { word = b.word; metric = b.metric; counts = k }) (counts_same (x.additions ∙ sym y.additions) (x.comparisons ∙ sym y.comparisons))

  pub decode-determined : (r s : Result Answer Refusal) (m n : List ℤ) (d e : List ℕ) → Decodes plate samples metrics decisions m d r → Decodes plate samples metrics decisions n e s
      → (r ≡ s) × (m ≡ n) × (d ≡ e)
  decode-determined (Ok a) (Ok b) m n d e x y =
      (ap Ok (answer-same a b x.1 y.1), x.2.metrics_zero ∙ sym y.2.metrics_zero, x.2.decisions_zero ∙ sym y.2.decisions_zero)
  decode-determined (Ok a) (Err q) m n d e x y = absurd (never_both conditions x.0 q y.0)
  decode-determined (Err p) (Ok b) m n d e x y = absurd (never_both conditions y.0 p x.0)
  decode-determined (Err p) (Err q) m n d e x y =
      (ap Err (refuses-once conditions single p q x.0 y.0), x.1 ∙ sym y.1, x.2 ∙ sym y.2)
