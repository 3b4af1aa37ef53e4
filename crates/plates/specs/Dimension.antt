-- The dimension of a set of words.
use Rattle.std.specs.Prelude.{ℕ, ◌^◌, ◌<◌, length, List, ◌↔◌, ◌≡◌}
use Rattle.words.specs.Sum.{sum_of, IsSum}

-- S has dimension d: its words are the sums of d rows, and different numbers below 2 ^ d give different sums
pub record Dimension (S : ℕ → Type 0) (d : ℕ) : Type 0 where
  pub basis : List ℕ
  pub size : length basis ≡ d
  pub spans : (w : ℕ) → IsSum basis w ↔ S w
  pub different : (u v : ℕ) → u < 2 ^ d → v < 2 ^ d → sum_of basis u ≡ sum_of basis v → u ≡ v
