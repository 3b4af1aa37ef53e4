-- The reasons of a codeword that is not the answer: it scores less, or it ties and loses.
use lib.Bits.{bit_xor, differ}
use lib.IntN.{nat_abs, ℤ, ◌-ℤ◌}
use lib.Dec.{T}
use lib.Signed.{lt_z, ◌<ℤ◌}
use mathlib.Core.Bool.{Bool, false, true}
use mathlib.Core.List.{List}
use mathlib.Core.Logic.{inl, inr, ◌⊎◌}
use mathlib.Core.Path.{ap, ap₂, subst, sym, ◌∙◌, ◌≡◌}
use mir.Syntax.{w32}
use mir.Val.{SFits, of_z, to_z}
use native.Mathlib.Omega.{arith}
use Prim.Native.Nat.{◌*◌, ℕ, ◌≤◌}
use Rattle.asking.specs.Asking.{Less, Loses}
use Rattle.asking.specs.Working.{Asked, Sampled}
use Rattle.decoding.proofs.IntegerOrder.{le-lt-or-eq}
use Rattle.decoding.proofs.Integers.{back, difference-fits, difference_is}
use Rattle.decoding.proofs.MetricBounds.{metric-within}
use Rattle.decoding.specs.declared.Answer.{Answer}
use Rattle.decoding.specs.Metric.{limit, metric_of}
use Rattle.plates.proofs.SoundIsPrepared.{sound}
use Rattle.plates.specs.declared.Plate.{Plate}
use Rattle.plates.specs.Prepare.{IsWord}
use Rattle.words.proofs.Span.{first-unique}
use Rattle.words.proofs.Ends.{some-pos}
use Rattle.words.proofs.Word.{bit-xor, differ_self}
use Rattle.words.specs.Ends.{FirstOne}
use Rattle.words.specs.Span.{First}
use Rattle.words.specs.Word.{bit, Earlier}

-- where one word is earlier, the first one of their sum is the first position of difference
pub earlier-first : (a w : ℕ) (e : Earlier a w) → First (bit_xor w a) e.place
earlier-first a w e = record {
  one = bit-xor e.place w a ∙ ap₂ differ e.one_there e.zero_here;
  zeros = λ i h. bit-xor i w a ∙ ap (λ (x : ℕ). differ x (bit a i)) (sym (e.same i h)) ∙ differ_self (bit a i);
}

module _ (plate : Plate) (samples : List ℤ) (a : Answer) (asked : Asked plate samples a) where
  pub samples-fit : Sampled samples
  samples-fit = record { few = omega (arith, asked.size, (sound asked.given).short); within = asked.within }

  pub metric-fits : (w : ℕ) → nat_abs (metric_of samples w) ≤ 64 * limit
  metric-fits w = omega (arith, metric-within limit samples asked.within w, samples-fit.few)

  pub best-fits : nat_abs a.metric ≤ 64 * limit
  best-fits = subst (λ (z : ℤ). nat_abs z ≤ 64 * limit) (sym asked.best.metric) (metric-fits a.word)

  -- the two metrics as the machine reads them
  pub best-read : to_z w32 (of_z w32 a.metric) ≡ a.metric
  best-read = back a.metric (omega (arith, best-fits))

  module _ (w : ℕ) (m : ℤ) (e : m ≡ metric_of samples w) where
    pub metric-read : to_z w32 (of_z w32 m) ≡ metric_of samples w
    metric-read = ap (λ (z : ℤ). to_z w32 (of_z w32 z)) e ∙ back (metric_of samples w) (omega (arith, metric-fits w))

    pub sub-fits : SFits w32 (to_z w32 (of_z w32 a.metric) -ℤ to_z w32 (of_z w32 m))
    sub-fits = difference-fits a.metric (metric_of samples w) best-read metric-read (omega (arith, best-fits)) (omega (arith, metric-fits w))

    pub sub_is : to_z w32 (of_z w32 (to_z w32 (of_z w32 a.metric) -ℤ to_z w32 (of_z w32 m))) ≡ a.metric -ℤ metric_of samples w
    sub_is = difference_is a.metric (metric_of samples w) best-read metric-read (omega (arith, best-fits)) (omega (arith, metric-fits w))

    pub test-is : (t : Bool) → lt_z (to_z w32 (of_z w32 m)) (to_z w32 (of_z w32 a.metric)) ≡ t → lt_z (metric_of samples w) a.metric ≡ t
    test-is t h = sym (ap₂ lt_z metric-read best-read) ∙ h

  module _ (w : ℕ) (codeword : IsWord plate w) where
    pub scores-less : lt_z (metric_of samples w) a.metric ≡ true → (d : ℤ) → d ≡ a.metric -ℤ metric_of samples w → Less plate samples a w d
    scores-less t d e = record { codeword = codeword; less = record { lt = subst T (sym t) tt }; by = e }

    -- what is not less than the greatest is the same
    ties : lt_z (metric_of samples w) a.metric ≡ false → metric_of samples w ≡ a.metric
    ties t = go (le-lt-or-eq (asked.best.greatest w codeword))
      where
        go : (metric_of samples w <ℤ a.metric) ⊎ (metric_of samples w ≡ a.metric) → metric_of samples w ≡ a.metric
        go (inl l) = absurd (subst T t l.lt)
        go (inr e) = e

    pub ties-and-loses : (w ≡ a.word → ⊥) → lt_z (metric_of samples w) a.metric ≡ false → (p : ℕ) → FirstOne (bit_xor w a.word) p → Loses plate samples a w p
    ties-and-loses other t p f = go (asked.best.earliest w codeword (ties t))
      where
        go : (a.word ≡ w) ⊎ Earlier a.word w → Loses plate samples a w p
        go (inl e) = absurd (other (sym e))
        go (inr e) =
            let l = earlier-first a.word w e in
            record { codeword = codeword; tie = ties t; loses = e; at = first-unique (f.some (some-pos _ e.place l.one)) l }
