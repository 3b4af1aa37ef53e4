-- The level of a value, of a sample, and the levels of a block.
use Rattle.std.specs.Prelude.{ℕ, zero, suc, ◌≤◌, ◌<◌, T, Float, ℤ, pos, neg_ℤ, length, get_or, false, List, ◌≡◌}
use Rattle.std.specs.Float.{binary32, fin, nan}
use Rattle.std.specs.Float.Ieee.{le, lt, mul, neg, of_int}
use Rattle.words.specs.Word.{bit}
use Rattle.levels.specs.declared.Sample.{Sample}
use Rattle.levels.specs.declared.Sample.TheVariants.{Heard, Erased}
use Rattle.levels.specs.declared.Setting.{Setting}

-- the value 0
abbrev pub nought : Float
nought = fin false 0 (pos 0)

-- j times step, rounded once to f32; j is an f32 as it stands
abbrev pub times : ℕ → Float → Float
times j step = mul binary32 (of_int binary32 (pos j)) step

-- j times step is at most the value
abbrev pub Reached : Setting → Float → ℕ → Type 0
Reached setting value j = T (le (times j setting.step) value)

-- j is the largest level from 0 to the top level that the value reaches
pub record Largest (setting : Setting) (value : Float) (j : ℕ) : Type 0 where
  pub within : j ≤ setting.top
  pub reached : Reached setting value j
  pub largest : (i : ℕ) → j < i → i ≤ setting.top → Reached setting value i → ⊥

-- The level of a value: of one of zero or more, the largest that it reaches; of a negative one, minus the level of its negation
pub record LevelOf (setting : Setting) (value : Float) (level : ℤ) : Type 0 where
  pub size : ℕ
  pub zero_or_more : T (le nought value) → Largest setting value size × (level ≡ pos size)
  pub negative : T (lt value nought) → Largest setting (neg value) size × (level ≡ neg_ℤ (pos size))

-- the level of a sample: an erased one gives 0
abbrev pub LevelOfSample : Setting → Sample → ℤ → Type 0
LevelOfSample setting (Heard value) level = LevelOf setting value level
LevelOfSample setting Erased level = level ≡ pos 0

-- the sample of a value and its mark, which is 1 where it is erased
abbrev pub sample_of : Float → ℕ → Sample
sample_of value zero = Heard value
sample_of value (suc mark) = Erased

-- the sample at a position of a block: a value at an erased position means nothing
abbrev pub sample_at : List Float → ℕ → ℕ → Sample
sample_at values erased i = sample_of (get_or values i nan) (bit erased i)

-- a room has the levels of a block
pub record LevelsOf (setting : Setting) (values : List Float) (erased : ℕ) (room : List ℤ) : Type 0 where
  pub as_long : length room ≡ length values
  pub each : (i : ℕ) → i < length values → LevelOfSample setting (sample_at values erased i) (get_or room i (pos 0))
