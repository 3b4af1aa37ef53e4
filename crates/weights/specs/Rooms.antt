-- The rooms: whether one is too short; and the counts, copied out of the working room, and looked through.
use Rattle.std.specs.Prelude.{get_or, length, Bool, None, Option, Some, false, true, List, ◌⊎◌, ◌≡◌, ◌+◌, ◌<◌, ℕ, ◌≤◌}

-- r says whether the counts, or the numbers of the working room, are too few
pub record TestsRooms (counts working need : ℕ) (r : Bool) : Type 0 where
  pub yes_is : r ≡ true → (counts < 65) ⊎ (working < need)
  pub no_is : r ≡ false → (65 ≤ counts) × (need ≤ working)

-- the first m counts are what begins at `from` in the working room, and the others as they were
pub record Copied (working : List ℕ) (from : ℕ) (counts : List ℕ) (m : ℕ) (counts' : List ℕ) : Type 0 where
  pub size : length counts' ≡ length counts
  pub here : (w : ℕ) → w < m → get_or counts' w 0 ≡ get_or working (from + w) 0
  pub behind : (i : ℕ) → m ≤ i → get_or counts' i 0 ≡ get_or counts i 0

-- r is the first of the 65 weights above zero whose count is above zero, and 65 where none is
pub record FirstAbove (counts : List ℕ) (r : ℕ) : Type 0 where
  pub above : 0 < r
  pub within : r ≤ 65
  pub some : r < 65 → 0 < get_or counts r 0
  pub none : (w : ℕ) → 0 < w → w < r → get_or counts w 0 ≡ 0

-- the smallest weight above zero whose count is above zero
abbrev pub LeastAbove : List ℕ → Option ℕ → Type 0
LeastAbove counts (Some r) = FirstAbove counts r × (r < 65)
LeastAbove counts None = FirstAbove counts 65
