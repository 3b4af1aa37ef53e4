-- A row: n characters 0 or 1. With first the leftmost is position 0, with last the rightmost.
use Rattle.std.specs.Prelude.{ℕ, ◌+◌, ◌*◌, eqb, leb, length, Bool, cond, ◌&&◌, List, [], ◌∷◌, Option, Some, None}
use Rattle.std.specs.List.{list_all}
use Rattle.sheets.specs.Turning.{in_order}
use Rattle.sheets.specs.declared.Order.{Order}

-- the character 0 (48) or 1 (49)
abbrev pub is_bit : ℕ → Bool
is_bit x = leb 48 x && leb x 49

-- whether each character is 0 or 1
abbrev pub bits_only : List ℕ → Bool
bits_only f = list_all is_bit f

-- the character 1 is a one
abbrev pub bit_of : ℕ → ℕ
bit_of x = cond (eqb x 49) 1 0

-- the word whose position 0 is the first character
abbrev pub word_from : List ℕ → ℕ
word_from [] = 0
word_from (x ∷ xs) = word_from xs * 2 + bit_of x

-- the word of a row
abbrev pub row_of : ℕ → Order → List ℕ → Option ℕ
row_of n order f = cond (eqb (length f) n && bits_only f) (Some (word_from (in_order order f))) None
