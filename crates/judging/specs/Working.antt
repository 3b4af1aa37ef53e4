-- What the parts of judging promise one another.
use Rattle.std.specs.Prelude.{ℕ, ◌<◌, Bool, None, Option, Some, true, false, ◌≡◌}

-- r is the first of m places that a test finds
pub record FirstAt (m : ℕ) (test : ℕ → Bool) (r : ℕ) : Type 0 where
  pub there : r < m
  pub here : test r ≡ true
  pub before : (j : ℕ) → j < r → test j ≡ false

-- what a search of m places replies
abbrev pub FirstFound : ℕ → (ℕ → Bool) → Option ℕ → Type 0
FirstFound m test (Some r) = FirstAt m test r
FirstFound m test None = (j : ℕ) → j < m → test j ≡ false
