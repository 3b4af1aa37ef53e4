-- Live rows, and the profile.
use Rattle.std.specs.Prelude.{ℕ, ltb, leb, length, Bool, ◌&&◌, List}
use Rattle.words.specs.Choice.{count}
use Rattle.words.specs.Ends.{firsts, lasts}

-- row j is live at depth t: its first one, f j, is before position t and its last one, l j, is at t or after
abbrev pub live : (ℕ → ℕ) → (ℕ → ℕ) → ℕ → ℕ → Bool
live f l t j = ltb (f j) t && leb t (l j)

-- the profile entry s(t): the number of live rows
abbrev pub live_at : List ℕ → ℕ → ℕ
live_at rows t = count (length rows) (live (firsts rows) (lasts rows) t)
