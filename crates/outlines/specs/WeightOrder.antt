-- What the text of a plate's weights says, line by line: which weights have a line, and in which order.
use Rattle.std.specs.Prelude.{get_or, length, Bool, ◌++◌, List, [], ◌∷◌, ◌↔◌, ◌≡◌, ◌<◌, ℕ, ◌≤◌}
use Rattle.listings.specs.Lines.{weight_line}
use Rattle.outlines.specs.WeightLines.{last_line}
use Rattle.plates.specs.declared.Plate.{Plate}
use Rattle.weights.specs.Weights.{LeastIs, NumberOfWeight}

-- w is one of some weights
abbrev pub Among : ℕ → List ℕ → Type 0
Among w weights = (i : ℕ) × (i < length weights) × (get_or weights i 0 ≡ w)

-- the lines of some weights, each with its count
abbrev pub lines_of : (ℕ → ℕ) → List ℕ → List ℕ
lines_of count [] = []
lines_of count (w ∷ weights) = weight_line w (count w) ++ lines_of count weights

-- the lines of a text are those of weights that rise from line to line: of 0 to n exactly those with a count above 0; and the last line is `least`
pub record LinesByWeight (plate : Plate) (text : List ℕ) : Type 0 where
  pub count : ℕ → ℕ
  pub numbers : (w : ℕ) → w ≤ plate.n → NumberOfWeight plate w (count w)
  pub weights : List ℕ
  pub rising : (i j : ℕ) → i < j → j < length weights → get_or weights i 0 < get_or weights j 0
  pub exactly : (w : ℕ) → Among w weights ↔ ((w ≤ plate.n) × (0 < count w))
  pub none : Bool
  pub least : ℕ
  pub least_is : LeastIs plate none least
  pub is : text ≡ lines_of count weights ++ last_line none least
