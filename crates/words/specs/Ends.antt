-- The first and the last one of a 64-bit word, by the counts of zeros at its ends.
use Rattle.std.specs.Prelude.{ℕ, ◌-◌, ◌<◌, get_or, List, ◌≡◌}
use Rattle.std.specs.Int.Count.{count_trailing_zeros, count_leading_zeros}
use Rattle.words.specs.Span.{First, Last}

-- r is the first one of a word, and 64 where it has none
pub record FirstOne (w r : ℕ) : Type 0 where
  pub none : w ≡ 0 → r ≡ 64
  pub some : 0 < w → First w r

-- r is the last one of a word, and 64 where it has none
pub record LastOne (w r : ℕ) : Type 0 where
  pub none : w ≡ 0 → r ≡ 64
  pub some : 0 < w → Last w r

-- the first one of a word that has one
unfoldable pub first : ℕ → ℕ
first w = count_trailing_zeros 64 w

-- the last one of a word that has one
unfoldable pub last : ℕ → ℕ
last w = 63 - count_leading_zeros 64 w

-- where the rows of a list have their first ones
abbrev pub firsts : List ℕ → ℕ → ℕ
firsts rows j = first (get_or rows j 0)

-- where they have their last ones
abbrev pub lasts : List ℕ → ℕ → ℕ
lasts rows j = last (get_or rows j 0)
