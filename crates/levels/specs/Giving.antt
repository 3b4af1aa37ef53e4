-- What the two calls reply, and when they refuse.
use Rattle.std.specs.Prelude.{ℕ, ◌≤◌, ◌<◌, T, Float, ℤ, length, Bool, false, List, [], ◌∷◌, ◌⊎◌, ◌≡◌, Result, Ok, Err}
use Rattle.std.specs.Float.Ieee.{is_nan, lt}
use Rattle.std.specs.Float.Ieee.Scale.{finite}
use Rattle.plates.specs.declared.Refusal.{Refusal}
use Rattle.plates.specs.declared.Refusal.TheVariants.{BadSetting, NotANumber, SampleCount}
use Rattle.plates.specs.Prepare.{bad_length}
use Rattle.plates.specs.Refusals.{Refuses, Passes}
use Rattle.levels.specs.declared.Sample.{Sample}
use Rattle.levels.specs.declared.Sample.TheVariants.{Heard, Erased}
use Rattle.levels.specs.declared.Setting.{Setting}
use Rattle.levels.specs.Choosing.{LevelOfSample, LevelsOf, nought, sample_at, times}

-- ---- the conditions of refusals 24, 6 and 25, besides 1

-- a setting that is permitted
pub record Good (setting : Setting) : Type 0 where
  pub step_finite : T (finite setting.step)
  pub top_finite : T (finite (times setting.top setting.step))
  pub above_zero : T (lt nought setting.step)
  pub least : 1 ≤ setting.top
  pub most : setting.top ≤ 127

-- 24: it is not
abbrev pub bad_setting : Setting → Refusal → Type 0
bad_setting setting q = (Good setting → ⊥) × (q ≡ BadSetting)

-- 6: the values, or the room for the levels, are not n
abbrev pub bad_count : ℕ → List Float → List ℤ → Refusal → Type 0
bad_count n values room q = ((length values ≡ n → ⊥) ⊎ (length room ≡ n → ⊥)) × (q ≡ SampleCount)

-- whether a sample is heard and its value not a number
abbrev pub not_a_number : Sample → Bool
not_a_number (Heard value) = is_nan value
not_a_number Erased = false

-- 25, of a single sample
abbrev pub no_number : Sample → Refusal → Type 0
no_number sample q = T (not_a_number sample) × (q ≡ NotANumber 0)

-- 25, of a block: the place is the first such position
pub record NoNumberAt (n : ℕ) (values : List Float) (erased : ℕ) (q : Refusal) : Type 0 where
  pub position : ℕ
  pub there : position < n
  pub here : T (not_a_number (sample_at values erased position))
  pub first : (i : ℕ) → i < position → T (not_a_number (sample_at values erased i)) → ⊥
  pub is : q ≡ NotANumber position

-- a single sample: 24, 25
abbrev pub sample_conditions : Setting → Sample → List (Refusal → Type 0)
sample_conditions setting sample = bad_setting setting ∷ no_number sample ∷ []

-- a block: 1, 24, 6, 25
abbrev pub block_conditions : ℕ → Setting → List Float → ℕ → List ℤ → List (Refusal → Type 0)
block_conditions n setting values erased room =
    bad_length n ∷ bad_setting setting ∷ bad_count n values room ∷ NoNumberAt n values erased ∷ []

-- ---- the replies

-- a single sample
abbrev pub GivesLevel : Setting → Sample → Result ℤ Refusal → Type 0
GivesLevel setting sample (Ok level) = Passes (sample_conditions setting sample) × LevelOfSample setting sample level
GivesLevel setting sample (Err q) = Refuses (sample_conditions setting sample) q

-- a block, with its room before and after: the first refusal in order with the room unchanged, or the n levels in the room
abbrev pub GivesLevels : ℕ → Setting → List Float → ℕ → List ℤ → List ℤ → Result (Unit {0}) Refusal → Type 0
GivesLevels n setting values erased room room' (Ok _) =
    Passes (block_conditions n setting values erased room) × LevelsOf setting values erased room'
GivesLevels n setting values erased room room' (Err q) = Refuses (block_conditions n setting values erased room) q × (room' ≡ room)
