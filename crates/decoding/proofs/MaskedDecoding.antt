-- What a mask changes: nothing where it is zero; else the decoding is the plain one of turned samples, with the mask added to its word.
use lib.Bits.{bit_xor, xor_zero_r}
use lib.IntN.{ℤ}
use lib.Signed.{◌≤ℤ◌}
use mathlib.Core.List.{List}
use mathlib.Core.Logic.{◌↔◌, ◌⊎◌}
use mathlib.Core.Path.{subst, sym, ◌∙◌, ◌≡◌}
use Prim.Native.Nat.{ℕ}
use Rattle.decoding.proofs.DecodeDetermined.{counts_same}
use Rattle.decoding.proofs.IntegerOrder.{≤ℤ-antisym}
use Rattle.decoding.proofs.MaskedCounts.{mask-branches, mask-entering}
use Rattle.decoding.proofs.MaskedWords.{words-plain}
use Rattle.decoding.proofs.TurnedSamples.{turned-back, turned-metric}
use Rattle.decoding.specs.Apart.{BestMetric, BestMetricIn, BestSelection, BestSelectionIn}
use Rattle.decoding.specs.declared.Answer.{Answer}
use Rattle.decoding.specs.declared.apart.Measure.{Measure}
use Rattle.decoding.specs.declared.apart.Selection.{Selection}
use Rattle.decoding.specs.declared.firmness.Flag.{Flag}
use Rattle.decoding.specs.Decode.{Best, BestIn}
use Rattle.decoding.specs.Firmness.{FlagOf}
use Rattle.decoding.specs.Metric.{metric_of}
use Rattle.decoding.specs.Totals.{branch_total, entering_less_one}
use Rattle.decoding.specs.Turning.{turned_by}
use Rattle.plates.specs.declared.Plate.{Plate}
use Rattle.plates.specs.Prepare.{IsWord, rows_of}
use Rattle.trellises.proofs.MaskedGraph.{xor-twice}
use Rattle.trellises.specs.Branching.{code_trellis, trellis_of}
use Rattle.words.specs.Sum.{IsSum}
use Rattle.words.specs.Word.{Earlier}

-- ---- a zero mask: every promise is the one over the codewords

module _ (plate : Plate) (none : plate.mask ≡ 0) (samples : List ℤ) where
  -- what holds of the words holds of the codewords, and back
  of-codewords : (P : (ℕ → Type 0) → Type 0) → P (IsWord plate) ↔ P (IsSum (rows_of plate))
  of-codewords P = (subst P (words-plain plate none), subst P (sym (words-plain plate none)))

  pub decode-unmasked : (a : Answer) → Best plate samples a ↔ BestIn (IsSum (rows_of plate)) plate samples a
  decode-unmasked a = of-codewords (λ (C : ℕ → Type 0). BestIn C plate samples a)

  pub metric-unmasked : (m : Measure) → BestMetric plate samples m ↔ BestMetricIn (IsSum (rows_of plate)) plate samples m
  metric-unmasked m = of-codewords (λ (C : ℕ → Type 0). BestMetricIn C plate samples m)

  pub word-unmasked : (c : Selection) → BestSelection plate samples c ↔ BestSelectionIn (IsSum (rows_of plate)) plate samples c
  word-unmasked c = of-codewords (λ (C : ℕ → Type 0). BestSelectionIn C plate samples c)

  pub firmness-unmasked : (position : ℕ) (flag : Flag) → FlagOf (IsWord plate) samples position flag ↔ FlagOf (IsSum (rows_of plate)) samples position flag
  firmness-unmasked position flag = of-codewords (λ (C : ℕ → Type 0). FlagOf C samples position flag)

-- ---- any mask: the same plate without it, and turned samples

-- the plate that differs in its mask alone, which is zero
abbrev pub plain_of : Plate → Plate
plain_of plate = record { n = plate.n; k = plate.k; mask = 0; rows = plate.rows; profile = plate.profile }

-- the answer's word plus mask is a word of the plain plate that has the greatest metric with the turned samples, which is the answer's; of
-- equals it is the one that is earliest with the mask added; the counts are the plain plate's
pub record PlainlyBest (plain : Plate) (mask : ℕ) (samples : List ℤ) (a : Answer) : Type 0 where
  pub codeword : IsWord plain (bit_xor a.word mask)
  pub metric : a.metric ≡ metric_of (turned_by mask samples) (bit_xor a.word mask)
  pub greatest : (v : ℕ) → IsWord plain v → metric_of (turned_by mask samples) v ≤ℤ a.metric
  pub earliest : (v : ℕ) → IsWord plain v → metric_of (turned_by mask samples) v ≡ a.metric → (a.word ≡ bit_xor v mask) ⊎ Earlier a.word (bit_xor v mask)
  pub additions : a.counts.additions ≡ branch_total (trellis_of plain) plain.n
  pub comparisons : a.counts.comparisons ≡ entering_less_one (trellis_of plain) plain.n

module _ (plate : Plate) (samples : List ℤ) where
  -- a word of the plate plus mask is one of the plain plate, and back
  plain_word : (w : ℕ) → IsWord plate w → IsWord (plain_of plate) (bit_xor w plate.mask)
  plain_word w g = subst (IsSum (rows_of plate)) (sym (xor_zero_r (bit_xor w plate.mask))) g

  masked-word : (v : ℕ) → IsWord (plain_of plate) v → IsWord plate (bit_xor v plate.mask)
  masked-word v g = subst (IsSum (rows_of plate)) (xor_zero_r v ∙ sym (xor-twice v plate.mask)) g

  -- both trellises have as many branches, and as many entering each state
  same_branches : branch_total (trellis_of plate) plate.n ≡ branch_total (trellis_of (plain_of plate)) plate.n
  same_branches = mask-branches plate.mask (code_trellis plate) plate.n ∙ sym (mask-branches 0 (code_trellis plate) plate.n)

  same-entering : entering_less_one (trellis_of plate) plate.n ≡ entering_less_one (trellis_of (plain_of plate)) plate.n
  same-entering = mask-entering plate.mask (code_trellis plate) plate.n ∙ sym (mask-entering 0 (code_trellis plate) plate.n)

  -- the masked decoding is the plain one so
  pub decode-masked : (a : Answer) → Best plate samples a ↔ PlainlyBest (plain_of plate) plate.mask samples a
  decode-masked a = (there, back)
    where
      there : Best plate samples a → PlainlyBest (plain_of plate) plate.mask samples a
      there b = record {
        codeword = plain_word a.word b.codeword;
        metric = b.metric ∙ sym (turned-back plate.mask samples a.word);
        greatest = λ v g.
            subst (λ (m : ℤ). m ≤ℤ a.metric) (sym (turned-metric plate.mask samples v)) (b.greatest (bit_xor v plate.mask) (masked-word v g));
        earliest = λ v g t. b.earliest (bit_xor v plate.mask) (masked-word v g) (sym (turned-metric plate.mask samples v) ∙ t);
        additions = b.additions ∙ same_branches;
        comparisons = b.comparisons ∙ same-entering;
      }

      back : PlainlyBest (plain_of plate) plate.mask samples a → Best plate samples a
      back b = record {
        codeword = subst (IsWord plate) (xor-twice a.word plate.mask) (masked-word (bit_xor a.word plate.mask) b.codeword);
        metric = b.metric ∙ turned-back plate.mask samples a.word;
        greatest = λ w g. subst (λ (m : ℤ). m ≤ℤ a.metric) (turned-back plate.mask samples w) (b.greatest (bit_xor w plate.mask) (plain_word w g));
        earliest = λ w g t.
            subst (λ (x : ℕ). (a.word ≡ x) ⊎ Earlier a.word x) (xor-twice w plate.mask)
            (b.earliest (bit_xor w plate.mask) (plain_word w g) (turned-back plate.mask samples w ∙ t));
        additions = b.additions ∙ sym same_branches;
        comparisons = b.comparisons ∙ sym same-entering;
      }

  -- metric and counts are those of a plain decoding of the turned samples
  pub metric-masked : (a b : Answer) → Best plate samples a → Best (plain_of plate) (turned_by plate.mask samples) b
      → (a.metric ≡ b.metric) × (a.counts ≡ b.counts)
  metric-masked a b x y =
      let p : PlainlyBest (plain_of plate) plate.mask samples a = (decode-masked a).0 x in (
        ≤ℤ-antisym (subst (λ (m : ℤ). m ≤ℤ b.metric) (sym p.metric) (y.greatest (bit_xor a.word plate.mask) p.codeword))
            (subst (λ (m : ℤ). m ≤ℤ a.metric) (sym y.metric) (p.greatest b.word y.codeword)),
        counts_same (p.additions ∙ sym y.additions) (p.comparisons ∙ sym y.comparisons),
      )
