-- A matrix by its columns, and the list of a word's ones.
use Rattle.std.specs.Prelude.{eqb, length, cond, List, [], ◌∷◌, ◌*◌, ◌+◌, max, suc, zero, ℕ}
use Rattle.words.specs.Word.{bit}

-- ---- columns

-- column i of some rows as a word: its position j is position i of row j
abbrev pub column : List ℕ → ℕ → ℕ
column [] i = 0
column (row ∷ rows) i = column rows i * 2 + bit row i

-- `count` columns from i on
abbrev pub columns_from : List ℕ → ℕ → ℕ → List ℕ
columns_from rows i zero = []
columns_from rows i (suc count) = column rows i ∷ columns_from rows (suc i) count

-- the first `count` columns; the columns of these are the rows again
abbrev pub columns : ℕ → List ℕ → List ℕ
columns count rows = columns_from rows 0 count

-- ---- lists and weights

-- the ones of a word among `count` positions from `position` on, ascending and counted from 1
abbrev pub ones_from : ℕ → ℕ → ℕ → List ℕ
ones_from word position zero = []
ones_from word position (suc count) =
    cond (eqb (bit word position) 1) (suc position ∷ ones_from word (suc position) count) (ones_from word (suc position) count)

-- all ones of a word of 64 positions
unfoldable pub indices : ℕ → List ℕ
indices word = ones_from word 0 64

-- how many they are
unfoldable pub weight : ℕ → ℕ
weight word = length (indices word)

-- the largest of some weights
abbrev pub largest : List ℕ → ℕ
largest [] = 0
largest (x ∷ xs) = max x (largest xs)

-- numbers, padded with 0 to so many
abbrev pub padded : ℕ → List ℕ → List ℕ
padded zero xs = []
padded (suc most) [] = 0 ∷ padded most []
padded (suc most) (x ∷ xs) = x ∷ padded most xs

-- the list of a row or a column
abbrev pub list_of : ℕ → ℕ → List ℕ
list_of most word = padded most (indices word)
