-- What the library's own functions test and find on the way to a level.
use Rattle.std.specs.Prelude.{ℕ, ◌+◌, ◌≤◌, ◌<◌, T, Float, ℤ, length, Bool, true, false, List, MatchOption, Option, ◌⊎◌, ◌≡◌}
use Rattle.std.specs.Float.Ieee.{le}
use Rattle.levels.specs.declared.Sample.{Sample}
use Rattle.levels.specs.declared.Setting.{Setting}
use Rattle.levels.specs.Choosing.{Reached, nought, sample_at}
use Rattle.levels.specs.Giving.{Good, not_a_number}

-- r says whether a setting is permitted
pub record TestsSetting (setting : Setting) (r : Bool) : Type 0 where
  pub yes_is : r ≡ true → Good setting
  pub no_is : r ≡ false → Good setting → ⊥

-- a value of zero or more
abbrev pub ZeroOrMore : Float → Type 0
ZeroOrMore value = T (le nought value)

-- a sample is erased, or its value is a number
abbrev pub IsNumber : Sample → Type 0
IsNumber sample = T (not_a_number sample) → ⊥

-- all values before i are numbers where they are heard
abbrev pub NumbersTo : List Float → ℕ → ℕ → Type 0
NumbersTo values erased i = (j : ℕ) → j < i → IsNumber (sample_at values erased j)

-- r is the first position whose value is heard and not a number
pub record NotANumberAt (values : List Float) (erased r : ℕ) : Type 0 where
  pub there : r < length values
  pub before : NumbersTo values erased r
  pub here : T (not_a_number (sample_at values erased r))

-- the reply is that position; None where there is none
abbrev pub FirstNotANumber : List Float → ℕ → Option ℕ → Type 0
FirstNotANumber values erased r = MatchOption r (NumbersTo values erased (length values)) (NotANumberAt values erased)

-- r is the one that is so many levels higher where that is permitted and reached, and else the level
abbrev pub Raised : Setting → Float → ℕ → ℕ → ℕ → Type 0
Raised setting value level more r =
    ((r ≡ level) × (level + more ≤ setting.top → Reached setting value (level + more) → ⊥))
    ⊎ ((r ≡ level + more) × (level + more ≤ setting.top) × Reached setting value (level + more))

-- the level of a value is the level or less than span above it
pub record Within (setting : Setting) (value : Float) (level span : ℕ) : Type 0 where
  pub permitted : level ≤ setting.top
  pub reached : Reached setting value level
  pub beyond : (i : ℕ) → level + span ≤ i → i ≤ setting.top → Reached setting value i → ⊥

-- the values are numbers where they are heard, and the room is as long as they are
pub record Writable (setting : Setting) (values : List Float) (erased : ℕ) (room : List ℤ) : Type 0 where
  pub good : Good setting
  pub as_long : length room ≡ length values
  pub numbers : (i : ℕ) → i < length values → IsNumber (sample_at values erased i)
