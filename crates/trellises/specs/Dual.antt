-- The first depth at which a plate is too wide, for a code and its dual: the same matrix as G and as H.
use Rattle.std.specs.Prelude.{List, ◌<◌, ℕ, ◌≤◌}
use Rattle.plates.specs.Heads.{RowsOf}
use Rattle.plates.specs.Profile.{live_at}
use Rattle.words.specs.Ends.{firsts, lasts}

-- d is the first depth at which more than 12 rows are live
pub record FirstWide (rows : List ℕ) (n d : ℕ) : Type 0 where
  pub within : d ≤ n
  pub over : 12 < live_at rows d
  pub earlier : (t : ℕ) → t < d → live_at rows t ≤ 12

-- the plate of the code C is too wide, and first at depth d
pub record TooWideAt (C : ℕ → Type 0) (n d : ℕ) : Type 0 where
  pub rows : List ℕ
  pub plate : RowsOf C rows (firsts rows) (lasts rows)
  pub first : FirstWide rows n d
