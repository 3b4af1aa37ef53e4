-- What reading accepts beyond our form: several spaces for one, and indices in any order.
use Rattle.std.specs.Prelude.{eqb, ltb, drop, get_or, length, take, Bool, cond, false, true, ◌++◌, List, [], map, ◌∷◌, ◌≡◌, ◌<◌, ◌^◌, ℕ, ◌≤◌}
use Rattle.alists.specs.Lists.{columns}
use Rattle.alists.specs.OwnForm.{each, short}
use Rattle.alists.specs.Text.{lines_of, text_of}

-- a text with one space for several; whether a space stood before it
abbrev pub spaced_from : Bool → List ℕ → List ℕ
spaced_from space [] = []
spaced_from space (x ∷ s) = cond (eqb x 32) (cond space (spaced_from true s) (x ∷ spaced_from true s)) (x ∷ spaced_from false s)

-- one space for several
abbrev pub spaced_once : List ℕ → List ℕ
spaced_once text = spaced_from false text

-- an index among others that ascend up to the zeros
abbrev pub inserted : ℕ → List ℕ → List ℕ
inserted x [] = x ∷ []
inserted x (y ∷ ys) = cond (eqb y 0) (x ∷ y ∷ ys) (cond (ltb x y) (x ∷ y ∷ ys) (y ∷ inserted x ys))

-- the indices up to the first zero in ascending order, and what follows as it is
abbrev pub ordered : List ℕ → List ℕ
ordered [] = []
ordered (x ∷ xs) = cond (eqb x 0) (x ∷ xs) (inserted x (ordered xs))

-- lines with their lists, which stand after four lines, in order
abbrev pub lines_ordered : List (List ℕ) → List (List ℕ)
lines_ordered lines = take 4 lines ++ map ordered (drop 4 lines)

-- the sizes of a matrix: 1 to 64 columns and rows, and no one at n or beyond
pub record Sized (n : ℕ) (rows : List ℕ) : Type 0 where
  pub least : 1 ≤ n
  pub most : n ≤ 64
  pub some : 1 ≤ length rows
  pub few : length rows ≤ 64
  pub below : (j : ℕ) → j < length rows → get_or rows j 0 < 2 ^ n

-- a text that is that of a matrix but for several spaces and the order of indices
pub record Accepted (text : List ℕ) (n : ℕ) (rows : List ℕ) : Type 0 where
  pub sized : Sized n rows
  pub lines : List (List ℕ)
  pub numbers : each short lines ≡ true
  pub is : spaced_once text ≡ text_of lines
  pub order : lines_ordered lines ≡ lines_of (columns n rows) rows
