-- How firmly one position was received: the values of a reading, what each of them means, and what judging a position replies.
use Rattle.std.specs.Prelude.{ℕ, ◌≤◌, ℤ, pos, ◌-ℤ◌, ◌<ℤ◌, ◌≤ℤ◌, Bool, true, false, List, [], ◌∷◌, ◌≡◌, Result, Ok, Err}
use Rattle.words.specs.Word.{bit}
use Rattle.plates.specs.declared.Plate.{Plate}
use Rattle.plates.specs.declared.Refusal.{Refusal}
use Rattle.plates.specs.declared.Refusal.TheVariants.{PositionBeyond}
use Rattle.plates.specs.Prepare.{IsWord, not_prepared}
use Rattle.plates.specs.Refusals.{Refuses, Passes}
use Rattle.decoding.specs.declared.firmness.Flag.{Flag}
use Rattle.decoding.specs.declared.firmness.Reading.{Reading}
use Rattle.decoding.specs.declared.firmness.Reading.TheVariants.{Fixed, Open}
use Rattle.decoding.specs.Decode.{SampleOver, Zeroed, decision_room, metric_room, sample_count}
use Rattle.decoding.specs.Metric.{metric_of}

-- ---- the values of a reading

-- whether it is fixed
abbrev pub is_fixed : Reading → Bool
is_fixed (Fixed b) = true
is_fixed (Open margin) = false

-- what it comes with: the bit where it is fixed, and the margin where it is open
abbrev pub value : Reading → ℤ
value (Fixed b) = pos b
value (Open margin) = margin

-- what a reading says of the bit that decoding gives: the fixed one, 0 for a positive margin, 1 for a negative one, and nothing for zero
abbrev pub Agrees : Reading → ℕ → Type 0
Agrees (Fixed b) d = d ≡ b
Agrees (Open margin) d = (pos 0 <ℤ margin → d ≡ 0) × (margin <ℤ pos 0 → d ≡ 1)

-- ---- what they mean among the words C

-- fixed: every word has that bit there
abbrev pub Always : (ℕ → Type 0) → ℕ → ℤ → Type 0
Always C position b = (w : ℕ) → C w → pos (bit w position) ≡ b

-- m is the best metric among the words with bit b there
pub record BestAmong (C : ℕ → Type 0) (samples : List ℤ) (position b : ℕ) (m : ℤ) : Type 0 where
  pub word : ℕ
  pub codeword : C word
  pub has : bit word position ≡ b
  pub metric : metric_of samples word ≡ m
  pub greatest : (w : ℕ) → C w → bit w position ≡ b → metric_of samples w ≤ℤ m

-- open: the best metric among words with 0 there minus the best among those with 1
pub record Margin (C : ℕ → Type 0) (samples : List ℤ) (position : ℕ) (margin : ℤ) : Type 0 where
  pub with_zero : ℤ
  pub with_one : ℤ
  pub zero_best : BestAmong C samples position 0 with_zero
  pub one_best : BestAmong C samples position 1 with_one
  pub is : margin ≡ with_zero -ℤ with_one

-- what a value means where the reading is fixed, and where it is open
abbrev pub Means : (ℕ → Type 0) → List ℤ → ℕ → Bool → ℤ → Type 0
Means C samples position true v = Always C position v
Means C samples position false v = Margin C samples position v

-- the position asked for, and its reading
pub record FlagOf (C : ℕ → Type 0) (samples : List ℤ) (position : ℕ) (flag : Flag) : Type 0 where
  pub position_is : flag.position ≡ position
  pub reading : Means C samples position (is_fixed flag.reading) (value flag.reading)

-- ---- the reply

-- 21: the position is n or beyond
abbrev pub position_beyond : Plate → ℕ → Refusal → Type 0
position_beyond plate position q = (plate.n ≤ position) × (q ≡ PositionBeyond)

-- 21 stands after 7 and before 8
abbrev pub firmness_conditions : Plate → List ℤ → ℕ → List ℤ → List ℕ → List (Refusal → Type 0)
firmness_conditions plate samples position metrics decisions =
    not_prepared plate ∷ sample_count plate samples ∷ SampleOver samples ∷ position_beyond plate position ∷ metric_room plate metrics ∷ decision_room plate decisions ∷ []

-- What judging a position replies: the first refusal in order with both rooms unchanged, or the flag among the plate's words with the needed
-- room zeroed
abbrev pub TellsFirmness : Plate → List ℤ → ℕ → List ℤ → List ℕ → List ℤ → List ℕ → Result Flag Refusal → Type 0
TellsFirmness plate samples position metrics decisions metrics' decisions' (Err q) =
    Refuses (firmness_conditions plate samples position metrics decisions) q × (metrics' ≡ metrics) × (decisions' ≡ decisions)
TellsFirmness plate samples position metrics decisions metrics' decisions' (Ok flag) =
    Passes (firmness_conditions plate samples position metrics decisions) × FlagOf (IsWord plate) samples position flag
    × Zeroed plate metrics metrics' decisions decisions'
