-- A8, twelve-bit converters: samples are from -2047 to 2047 everywhere, metrics lie within 131,008 either way and A3's margins within 262,016.
-- 7 means outside the range. The limit is decoding/specs/Metric: `limit`; document 01's last case, 64 samples of the limit, is its worked bound.
use Rattle.std.proofs.Common.{Ok}
use lib.IntN.{nat_abs, negsuc, pos, ℤ}
use lib.ListN.{get_or, length, replicate}
use mathlib.Core.Bool.{false}
use mathlib.Core.List.{List}
use mathlib.Core.Logic.{◌↔◌}
use mathlib.Core.Path.{ap, refl, ◌≡◌}
use native.Mathlib.Decide.{dec_le}
use native.Mathlib.Nat.{mul-le-mul_left}
use native.Mathlib.Omega.{arith}
use Prim.Native.Nat.{◌<◌, ℕ, ◌≤◌}
use Rattle.decoding.proofs.FirmnessMargin.{margin-bounds}
use Rattle.decoding.proofs.MetricBounds.{metric-within}
use Rattle.decoding.proofs.SampleLimits.{none_over, samples-are-n}
use Rattle.decoding.specs.Apart.{Measures}
use Rattle.decoding.specs.declared.Answer.{Answer}
use Rattle.decoding.specs.declared.apart.Measure.{Measure}
use Rattle.decoding.specs.declared.firmness.Flag.{Flag}
use Rattle.decoding.specs.Decode.{Decodes, SampleOver, sample_count}
use Rattle.decoding.specs.Firmness.{TellsFirmness, is_fixed, value}
use Rattle.decoding.specs.Metric.{limit, metric_of}
use Rattle.plates.proofs.SoundIsPrepared.{sound}
use Rattle.plates.specs.declared.Plate.{Plate}
use Rattle.plates.specs.declared.Refusal.{Refusal}
use Rattle.plates.specs.declared.Refusal.TheVariants.{NotPrepared, SampleRange}
use Rattle.plates.specs.Prepare.{IsPrepared, not_prepared}
use Rattle.plates.specs.Refusals.{number, place}
use Rattle.reports.specs.Report.{BlockAnswer}

-- ---- the range

pub limit_is : limit ≡ 2047
limit_is = refl

-- 7 means a sample outside it, the place being the first such position
pub seven-means-outside : (samples : List ℤ) (i : ℕ)
    → SampleOver samples (SampleRange i)
    ↔ ((i < length samples) × (2047 < nat_abs (get_or samples i (pos 0))) × ((j : ℕ) → j < i → nat_abs (get_or samples j (pos 0)) ≤ 2047))
seven-means-outside samples i = (
  (λ s. let e : i ≡ s.position = ap place s.is in rw e (s.there, s.over, s.first)),
  λ x. record { position = i; there = x.0; over = x.1; first = x.2; is = refl },
)

pub seven-is-its-number : (i : ℕ) → (number (SampleRange i) ≡ 7) × (place (SampleRange i) ≡ i)
seven-is-its-number i = (refl, refl)

-- ---- metrics

-- at most 64 samples within the range give a metric within 131,008
metric-small : (samples : List ℤ) → length samples ≤ 64 → ((i : ℕ) → i < length samples → nat_abs (get_or samples i (pos 0)) ≤ limit)
    → (w : ℕ) → nat_abs (metric_of samples w) ≤ 131008
metric-small samples few within w = omega (arith, metric-within limit samples within w, mul-le-mul_left limit few)

module _ (plate : Plate) (samples : List ℤ) (given : (q : Refusal) → not_prepared plate q → ⊥) (counted : (q : Refusal) → sample_count plate samples q → ⊥)
    (ranged : (q : Refusal) → SampleOver samples q → ⊥) where
  short : Dec (plate.n ≤ 64) → plate.n ≤ 64
  short (yes h) = h
  short (no h) = absurd (given NotPrepared ((λ g. h (sound g).short), refl))

  -- of a block that is not refused with 5, 6 or 7, every word's metric
  pub metric-bound : (w : ℕ) → nat_abs (metric_of samples w) ≤ 131008
  metric-bound = metric-small samples (omega (arith, samples-are-n plate samples counted, short (dec_le plate.n 64))) (none_over samples ranged)

-- what decoding replies
pub decode-metric-bound : (plate : Plate) (samples metrics metrics' : List ℤ) (decisions decisions' : List ℕ) (a : Answer)
    → Decodes plate samples metrics decisions metrics' decisions' (Ok a) → nat_abs a.metric ≤ 131008
decode-metric-bound plate samples metrics metrics' decisions decisions' a d =
    omega (arith, ap nat_abs d.1.metric, metric-bound plate samples d.0.0 d.0.1.0 d.0.1.1.0 a.word)

-- what the metric call of A7 replies
pub measured-metric-bound : (plate : Plate) (samples metrics metrics' : List ℤ) (m : Measure) → Measures plate samples metrics metrics' (Ok m)
    → nat_abs m.metric ≤ 131008
measured-metric-bound plate samples metrics metrics' m d =
    omega (arith, ap nat_abs d.1.metric, metric-bound plate samples d.0.0 d.0.1.0 d.0.1.1.0 d.1.word)

-- what a listing prints of a block or heard line, over a prepared plate
pub listed-metric-bound : (plate : Plate) → IsPrepared plate → (samples : List ℤ) (a : Answer) → BlockAnswer plate samples (Ok a)
    → nat_abs a.metric ≤ 131008
listed-metric-bound plate given samples a x =
    omega (arith, ap nat_abs x.1.metric, metric-bound plate samples (λ q c. c.0 given) x.0.0 x.0.1.0 a.word)

-- ---- A3's margins

pub margin-bound : (plate : Plate) (samples : List ℤ) (position : ℕ) (metrics metrics' : List ℤ) (decisions decisions' : List ℕ) (f : Flag)
    → TellsFirmness plate samples position metrics decisions metrics' decisions' (Ok f) → is_fixed f.reading ≡ false → nat_abs (value f.reading) ≤ 262016
margin-bound plate samples position metrics metrics' decisions decisions' = margin-bounds plate samples position metrics decisions metrics' decisions'

-- ---- document 01's last case

-- 64 samples of -2047 and the word of 64 ones reach the bound, and of 2047 with the zero word
pub bound-is-reached : (metric_of (replicate 64 (pos 2047)) 0 ≡ pos 131008) × (metric_of (replicate 64 (negsuc 2046)) 0 ≡ negsuc 131007)
bound-is-reached = (refl, refl)
