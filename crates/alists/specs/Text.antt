-- The alist text of a matrix as we write it: spaces between numbers, a line feed after each line, indices ascending.
use Rattle.std.specs.Prelude.{ltb, length, cond, ◌++◌, List, [], map, ◌∷◌, ◌%◌, ◌+◌, ◌/◌, ℕ}
use Rattle.alists.specs.Lists.{columns, largest, list_of, weight}

-- ---- numbers, lines, texts

-- a number below 100, with no leading zero but for 0 itself
abbrev pub decimal : ℕ → List ℕ
decimal x = cond (ltb x 10) ((48 + x) ∷ []) ((48 + x / 10) ∷ (48 + x % 10) ∷ [])

-- numbers that follow another, each after a space, and the line feed
abbrev pub following : List ℕ → List ℕ
following [] = 10 ∷ []
following (x ∷ xs) = 32 ∷ (decimal x ++ following xs)

-- a line of numbers; with no number it is the line feed alone
abbrev pub line : List ℕ → List ℕ
line [] = 10 ∷ []
line (x ∷ xs) = decimal x ++ following xs

-- lines one after the other
abbrev pub text_of : List (List ℕ) → List ℕ
text_of [] = []
text_of (l ∷ ls) = line l ++ text_of ls

-- ---- the text of a matrix

-- the weights of some words
abbrev pub weights : List ℕ → List ℕ
weights words = map weight words

-- the lists of some words, each padded to the largest weight among them
abbrev pub lists_of : List ℕ → List (List ℕ)
lists_of words = map (list_of (largest (weights words))) words

-- its lines: both numbers, both largest weights, the weights of columns and of rows, the lists of columns and of rows
abbrev pub lines_of : List ℕ → List ℕ → List (List ℕ)
lines_of cols rows =
    (length cols ∷ length rows ∷ []) ∷ (largest (weights cols) ∷ largest (weights rows) ∷ []) ∷ weights cols ∷ weights rows ∷ (lists_of cols ++ lists_of rows)

-- the text of a matrix by its columns and rows
unfoldable pub matrix_text : List ℕ → List ℕ → List ℕ
matrix_text cols rows = text_of (lines_of cols rows)

-- the text of a matrix of n columns by its rows
abbrev pub alist_text : ℕ → List ℕ → List ℕ
alist_text n rows = matrix_text (columns n rows) rows
