-- Reading a matrix: each line is judged against those above it, and the first that is faulty, missing or extra is told.
use Rattle.std.specs.Prelude.{eqb, leb, drop, get_or, length, take, Bool, ◌&&◌, cond, false, true, List, [], ◌∷◌, ◌+◌, ◌-◌, ◌^◌, suc, ℕ}
use Rattle.std.specs.List.{list_all}
use Rattle.alists.specs.Lines.{Line, faulty, line_of, reads}
use Rattle.alists.specs.Lists.{column, largest}
use Rattle.words.specs.Word.{bit}

-- ---- one list

-- the word of a list, or that it is faulty
pub data Word : Type 0 where
  word : ℕ → Word
  wrong : Word

-- an index from 1 to the size that has not come before
abbrev pub fits : ℕ → ℕ → ℕ → Bool
fits size used x = cond (eqb x 0) false (cond (leb x size) (eqb (bit used (x - 1)) 0) false)

-- indices, each of which fits; the word has a one at each
abbrev pub ones_of : ℕ → ℕ → List ℕ → Word
ones_of size used [] = word used
ones_of size used (x ∷ xs) = cond (fits size used x) (ones_of size (used + 2 ^ (x - 1)) xs) wrong

-- zeros only
abbrev pub zeros_only : List ℕ → Bool
zeros_only xs = list_all (λ x. eqb x 0) xs

-- a list has its weight: so many indices, then zeros
abbrev pub word_of : ℕ → ℕ → List ℕ → Word
word_of size weight xs = cond (leb weight (length xs)) (cond (zeros_only (drop weight xs)) (ones_of size 0 (take weight xs)) wrong) wrong

-- ---- lists one after the other

-- a list's word and what stands after its line, or that the line is faulty
pub data Listed : Type 0 where
  listed : ℕ → List ℕ → Listed
  unlisted : Listed

-- by its word
abbrev pub listed_as : Word → List ℕ → Listed
listed_as (word w) s = listed w s
listed_as wrong s = unlisted

-- by its line
abbrev pub judged : ℕ → ℕ → Line → Listed
judged size weight (reads xs s) = listed_as (word_of size weight xs) s
judged size weight faulty = unlisted

-- the list at the start of a text
abbrev pub list_at : ℕ → ℕ → ℕ → List ℕ → Listed
list_at most size weight s = judged size weight (line_of most s)

-- a row shows the columns' ones; while no column is known a list shows what it will
abbrev pub shows : List ℕ → ℕ → ℕ → Bool
shows [] i w = true
shows (c ∷ cs) i w = eqb w (column (c ∷ cs) i)

-- the words of lists and what stands after their lines, or the first list that is faulty
pub data Lists : Type 0 where
  lists : List ℕ → List ℕ → Lists
  faulty_at : ℕ → Lists

-- a word before others
abbrev pub onto : ℕ → Lists → Lists
onto w (lists ws s) = lists (w ∷ ws) s
onto w (faulty_at i) = faulty_at i

-- one list, and the others read on
abbrev pub listed_on : Listed → List ℕ → ℕ → (List ℕ → Lists) → Lists
listed_on (listed w s) seen i on = cond (shows seen i w) (onto w (on s)) (faulty_at i)
listed_on unlisted seen i on = faulty_at i

-- a list for each weight, from list i on, against the columns that are known
abbrev pub lists_from : ℕ → ℕ → List ℕ → ℕ → List ℕ → List ℕ → Lists
lists_from most size seen i [] s = lists [] s
lists_from most size seen i (w ∷ ws) s = listed_on (list_at most size w s) seen i (lists_from most size seen (suc i) ws)

-- ---- the whole text, from its last lines to its first

-- a matrix: the number of its columns and its rows; or the line that is faulty, missing or extra
pub data Reading : Type 0 where
  matrix : ℕ → List ℕ → Reading
  fault_in : ℕ → Reading

-- nothing stands after the last line
abbrev pub ended : ℕ → List ℕ → List ℕ → Reading
ended n rows [] = matrix n rows
ended n rows (x ∷ s) = fault_in (5 + n + length rows)

-- the rows' lists stand after four lines and the columns' lists
abbrev pub on_rows : ℕ → Lists → Reading
on_rows n (lists rows s) = ended n rows s
on_rows n (faulty_at i) = fault_in (5 + n + i)

-- the columns' lists stand after four lines
abbrev pub on_columns : ℕ → ℕ → List ℕ → Lists → Reading
on_columns n most weights (lists cols s) = on_rows n (lists_from most n cols 0 weights s)
on_columns n most weights (faulty_at i) = fault_in (5 + i)

-- the row weights, of which the largest is met
abbrev pub on_row_weights : ℕ → ℕ → ℕ → ℕ → List ℕ → Line → Reading
on_row_weights n m most most_row column_weights (reads ws s) =
    cond (eqb (largest ws) most_row) (on_columns n most_row ws (lists_from most m [] 0 column_weights s)) (fault_in 4)
on_row_weights n m most most_row column_weights faulty = fault_in 4

-- the column weights, likewise
abbrev pub on_column_weights : ℕ → ℕ → ℕ → ℕ → Line → Reading
on_column_weights n m most most_row (reads ws s) = cond (eqb (largest ws) most) (on_row_weights n m most most_row ws (line_of m s)) (fault_in 3)
on_column_weights n m most most_row faulty = fault_in 3

-- the largest weights: of a column at most the number of rows, of a row at most that of columns
abbrev pub most_fit : ℕ → ℕ → List ℕ → Bool
most_fit n m vs = leb (get_or vs 0 0) m && leb (get_or vs 1 0) n

-- the second line
abbrev pub on_most : ℕ → ℕ → Line → Reading
on_most n m (reads vs s) = cond (most_fit n m vs) (on_column_weights n m (get_or vs 0 0) (get_or vs 1 0) (line_of n s)) (fault_in 2)
on_most n m faulty = fault_in 2

-- the numbers of columns and rows are 1 to 64
abbrev pub in_size : ℕ → Bool
in_size n = leb 1 n && leb n 64

-- the first line
abbrev pub on_sizes : Line → Reading
on_sizes (reads vs s) = cond (in_size (get_or vs 0 0) && in_size (get_or vs 1 0)) (on_most (get_or vs 0 0) (get_or vs 1 0) (line_of 2 s)) (fault_in 1)
on_sizes faulty = fault_in 1

-- the reading of each text
unfoldable pub reading : List ℕ → Reading
reading s = on_sizes (line_of 2 s)
