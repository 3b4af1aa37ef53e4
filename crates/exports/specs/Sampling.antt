-- How the level of a value and the levels of a block cross the interface: the cells, and the promises of the two calls.
use Rattle.plates.specs.declared.Refusal.{Refusal}
use Rattle.std.specs.Prelude.{Float, ℤ, length, set, List, ◌≡◌, ◌<◌, ℕ, ◌≤◌, Result, Ok, Err}
use Rattle.exports.specs.Calls.{Calls, Crossing, done}
use Rattle.exports.specs.Promises.{HasCell}
use Rattle.levels.specs.Choosing.{sample_of}
use Rattle.levels.specs.declared.Setting.{Setting}
use Rattle.levels.specs.Giving.{GivesLevel, GivesLevels}
use Rattle.plates.specs.Refusals.{number, place}

-- the setting of a step and a top level: the top crosses as 64 bits, and as it stands has to be 1 to 127 for the setting to be permitted
abbrev pub setting_of : Float → ℕ → Setting
setting_of step top = record { step = step; top = top }

-- r is the top level where it is at most 127, and else 0, which is not permitted either
pub record Narrows (top r : ℕ) : Type 0 where
  pub within : top ≤ 127 → r ≡ top
  pub over : 127 < top → r ≡ 0

-- ---- one level

-- the level in its cell; a refusal leaves it
abbrev pub level_as : List ℤ → Result ℤ Refusal → Crossing (List ℤ)
level_as cell (Ok level) = record { code = done; cells = set cell 0 level }
level_as cell (Err q) = record { code = number q; cells = cell }

-- fixed is a cell for the level; the value is erased unless `erased` is 0
abbrev pub CallsLevel : Float → ℕ → Float → ℕ → List ℤ → ℕ → List ℤ → Type 0
CallsLevel step top value erased cell r cell' =
    Calls (1 ≤ length cell) cell (GivesLevel (setting_of step top) (sample_of value erased)) (level_as cell) (record { code = r; cells = cell' })

-- ---- the levels of a block

-- the cells that are lent to the call
pub record LevelCells : Type 0 where
  pub levels : List ℤ
  pub at : List ℕ

-- the same, one by one
abbrev pub level_cells : List ℤ → List ℕ → LevelCells
level_cells levels at = record { levels = levels; at = at }

-- what the call below replies, with the room as it leaves it
pub record Sampling : Type 0 where
  pub reply : Result (Unit {0}) Refusal
  pub levels : List ℤ

-- place 0, or the place of the refusal
abbrev pub sampled_as : LevelCells → List ℤ → Result (Unit {0}) Refusal → Crossing LevelCells
sampled_as lent levels (Ok _) = record { code = done; cells = level_cells levels (set lent.at 0 0) }
sampled_as lent levels (Err q) = record { code = number q; cells = level_cells levels (set lent.at 0 (place q)) }

abbrev pub sampled : LevelCells → Sampling → Crossing LevelCells
sampled lent s = sampled_as lent s.levels s.reply

-- what the call below promises of its reply and its room
abbrev pub SamplesTo : ℕ → Setting → List Float → ℕ → LevelCells → Sampling → Type 0
SamplesTo n setting values erased lent s = GivesLevels n setting values erased lent.levels s.levels s.reply

-- fixed is the cell of the place; values and levels the call below counts itself
abbrev pub CallsLevels : ℕ → Float → ℕ → List Float → ℕ → LevelCells → ℕ → LevelCells → Type 0
CallsLevels n step top values erased lent r lent' =
    Calls (HasCell lent.at) lent (SamplesTo n (setting_of step top) values erased lent) (sampled lent) (record { code = r; cells = lent' })
