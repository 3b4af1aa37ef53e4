-- A text in our form, whatever it says: spaces between numbers, a line feed after each line, indices ascending.
use Rattle.std.specs.Prelude.{eqb, ltb, drop, Bool, ◌&&◌, cond, true, List, [], ◌∷◌, ◌≡◌, ℕ}
use Rattle.alists.specs.Text.{text_of}

-- every line passes a test
abbrev pub each : (List ℕ → Bool) → List (List ℕ) → Bool
each test [] = true
each test (l ∷ ls) = test l && each test ls

-- numbers below 100: one or two digits
abbrev pub short : List ℕ → Bool
short [] = true
short (x ∷ xs) = ltb x 100 && short xs

-- the indices of a list ascend from a number on, up to the zeros
abbrev pub ascend_from : ℕ → List ℕ → Bool
ascend_from last [] = true
ascend_from last (x ∷ xs) = cond (eqb x 0) true (ltb last x && ascend_from x xs)

-- each index is above the one before it
abbrev pub ascend : List ℕ → Bool
ascend xs = ascend_from 0 xs

-- lines of numbers, one space between two of them and a line feed after each line; the lists stand after four lines
pub record OwnForm (text : List ℕ) : Type 0 where
  pub lines : List (List ℕ)
  pub numbers : each short lines ≡ true
  pub is : text ≡ text_of lines
  pub indices : each ascend (drop 4 lines) ≡ true
