-- What a margin says: its sign is the bit that decoding gives, and it lies within twice 64 times the limit either way.
use Rattle.std.proofs.Common.{Ok}
use lib.IntN.{+ℤ_invr, ◌-ℤ◌, nat_abs, neg_ℤ, pos, ℤ}
use lib.ListN.{length}
use lib.Signed.{◌<ℤ◌, ◌≤ℤ◌, clash_ℤ}
use mathlib.Core.Bool.{Bool, false}
use mathlib.Core.List.{List}
use mathlib.Core.Logic.{inl, inr, ◌⊎◌}
use mathlib.Core.Path.{ap, refl, subst, sym, ◌≡◌}
use native.Mathlib.Decide.{dec_le}
use native.Mathlib.Nat.{mul-le-mul_left}
use native.Mathlib.Omega.{arith}
use Prim.Native.Nat.{◌*◌, ◌<◌, ℕ, ◌≤◌}
use Rattle.decoding.proofs.IntegerOrder.{add-le, ≤ℤ-trans}
use Rattle.decoding.proofs.Integers.{abs-add, abs_neg}
use Rattle.decoding.proofs.MetricBounds.{Within, metric-within}
use Rattle.decoding.proofs.SampleLimits.{none_over}
use Rattle.decoding.specs.declared.Answer.{Answer}
use Rattle.decoding.specs.declared.firmness.Flag.{Flag}
use Rattle.decoding.specs.declared.firmness.Reading.{Reading}
use Rattle.decoding.specs.declared.firmness.Reading.TheVariants.{Fixed, Open}
use Rattle.decoding.specs.Decode.{Best}
use Rattle.decoding.specs.Firmness.{Agrees, Always, BestAmong, FlagOf, TellsFirmness, Margin, Means, is_fixed, value}
use Rattle.decoding.specs.Metric.{limit}
use Rattle.plates.proofs.SoundIsPrepared.{sound}
use Rattle.plates.specs.declared.Plate.{Plate}
use Rattle.plates.specs.Prepare.{IsWord}
use Rattle.plates.specs.declared.Refusal.TheVariants.{NotPrepared, SampleCount}
use Rattle.words.proofs.Span.{lt-tri}
use Rattle.words.proofs.Word.{bit-cases}
use Rattle.words.specs.Word.{bit}

-- ---- the sign

-- a difference of what is not less, and of what is not greater
difference_below : (a b : ℤ) → a ≤ℤ b → (a -ℤ b) ≤ℤ pos 0
difference_below a b h = subst (λ (z : ℤ). (a -ℤ b) ≤ℤ z) (+ℤ_invr b) (add-le (neg_ℤ b) a b h)

difference-above : (a b : ℤ) → b ≤ℤ a → pos 0 ≤ℤ (a -ℤ b)
difference-above a b h = subst (λ (z : ℤ). z ≤ℤ (a -ℤ b)) (+ℤ_invr b) (add-le (neg_ℤ b) b a h)

module _ (plate : Plate) (samples : List ℤ) (position : ℕ) (a : Answer) (best : Best plate samples a) where
  -- the decoded word has one bit there, so no word with the other beats the best with its own
  beaten : (b d : ℕ) (m n : ℤ) → BestAmong (IsWord plate) samples position b m → BestAmong (IsWord plate) samples position d n → bit a.word position ≡ d → m ≤ℤ n
  beaten b d m n x y e =
      ≤ℤ-trans (subst (λ (z : ℤ). z ≤ℤ a.metric) x.metric (best.greatest x.word x.codeword))
      (subst (λ (z : ℤ). z ≤ℤ n) (sym best.metric) (y.greatest a.word best.codeword e))

  module _ (m : ℤ) (o : Margin (IsWord plate) samples position m) where
    pub positive-zero : pos 0 <ℤ m → bit a.word position ≡ 0
    positive-zero h = go (bit-cases a.word position)
      where
        go : (bit a.word position ≡ 0) ⊎ (bit a.word position ≡ 1) → bit a.word position ≡ 0
        go (inl e) = e
        go (inr e) =
            clash_ℤ h (subst (λ (z : ℤ). z ≤ℤ pos 0) (sym o.is) (difference_below o.with_zero o.with_one (beaten 0 1 o.with_zero o.with_one o.zero_best o.one_best e)))

    pub negative-one : m <ℤ pos 0 → bit a.word position ≡ 1
    negative-one h = go (bit-cases a.word position)
      where
        go : (bit a.word position ≡ 0) ⊎ (bit a.word position ≡ 1) → bit a.word position ≡ 1
        go (inl e) =
            clash_ℤ h (subst (λ (z : ℤ). pos 0 ≤ℤ z) (sym o.is) (difference-above o.with_zero o.with_one (beaten 1 0 o.with_one o.with_zero o.one_best o.zero_best e)))
        go (inr e) = e

  fixed-bit : (b : ℕ) → Always (IsWord plate) position (pos b) → bit a.word position ≡ b
  fixed-bit b h = let e : pos (bit a.word position) ≡ pos b = h a.word best.codeword in cc

  -- the reading agrees with the word that decoding gives
  pub margin-sign : (flag : Flag) → FlagOf (IsWord plate) samples position flag → Agrees flag.reading (bit a.word position)
  margin-sign flag f = go flag.reading f.reading
    where
      go : (r : Reading) → Means (IsWord plate) samples position (is_fixed r) (value r) → Agrees r (bit a.word position)
      go (Fixed b) h = fixed-bit b h
      go (Open m) o = (positive-zero m o, negative-one m o)

-- ---- the size

-- a margin of samples that are within the limit
pub margin-size : (plate : Plate) (samples : List ℤ) (position : ℕ) (m : ℤ) → Within limit samples → Margin (IsWord plate) samples position m → nat_abs m ≤ 2 * (limit * length samples)
margin-size plate samples position m h o =
    omega (
      arith,
      ap nat_abs o.is,
      abs-add o.with_zero (neg_ℤ o.with_one),
      abs_neg o.with_one,
      ap nat_abs o.zero_best.metric,
      metric-within limit samples h o.zero_best.word,
      ap nat_abs o.one_best.metric,
      metric-within limit samples h o.one_best.word,
    )

-- the bound on margins: 262,016
abbrev pub margin_limit : ℕ
margin_limit = 2 * (limit * 64)

pub margin-limit-is : margin_limit ≡ 262016
margin-limit-is = refl

-- a margin that is replied lies within it
pub margin-bounds : (plate : Plate) (samples : List ℤ) (position : ℕ) (metrics : List ℤ) (decisions : List ℕ) (metrics' : List ℤ) (decisions' : List ℕ) (flag : Flag)
    → TellsFirmness plate samples position metrics decisions metrics' decisions' (Ok flag) → is_fixed flag.reading ≡ false → nat_abs (value flag.reading) ≤ margin_limit
margin-bounds plate samples position metrics decisions metrics' decisions' flag j e =
    omega (arith, margin-size plate samples position (value flag.reading) (none_over samples j.0.1.1.0) (subst (λ (f : Bool). Means (IsWord plate) samples position f (value flag.reading)) e j.1.reading), mul-le-mul_left limit few)
  where
    short : Dec (plate.n ≤ 64) → plate.n ≤ 64
    short (yes h) = h
    short (no h) = absurd (j.0.0 NotPrepared ((λ g. h (sound g).short), refl))

    size : (length samples < plate.n) ⊎ ((length samples ≡ plate.n) ⊎ (plate.n < length samples)) → length samples ≤ plate.n
    size (inl h) = absurd (j.0.1.0 SampleCount ((λ e. omega (arith, e, h)), refl))
    size (inr (inl h)) = omega arith
    size (inr (inr h)) = absurd (j.0.1.0 SampleCount ((λ e. omega (arith, e, h)), refl))

    few : length samples ≤ 64
    few = omega (arith, short (dec_le plate.n 64), size (lt-tri (length samples) plate.n))
