-- What is left of a word once rows are taken off it by their heads.
use Rattle.std.specs.Int.Bits.{bit_xor}
use Rattle.std.specs.Prelude.{List, [], ◌∷◌, ℕ}
use Rattle.words.specs.Ends.{first}
use Rattle.words.specs.Sum.{taken}
use Rattle.words.specs.Word.{bit}

-- a row taken off a word that has a one at the row's first one
abbrev pub less_row : ℕ → ℕ → ℕ
less_row row w = bit_xor (taken (bit w (first row)) row) w

-- rows taken off one after the other, from the first to the last
abbrev pub taken_off : List ℕ → ℕ → ℕ
taken_off [] w = w
taken_off (row ∷ rows) w = taken_off rows (less_row row w)
