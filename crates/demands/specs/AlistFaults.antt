-- Which line of an alist text is told (A1), apart from the reader: the lines of a text by its line feeds, each judged against those above it, and the
-- first that is faulty, missing or extra. That reading tells this line is proved (proofs/AlistFaults).
use Rattle.std.specs.Prelude.{eqb, ltb, get_or, length, take, Bool, ◌&&◌, cond, false, true, ◌++◌, List, [], ◌∷◌, ◌⊎◌, ◌≡◌, ◌+◌, ◌-◌, suc, ℕ}
use Rattle.alists.specs.Accepted.{spaced_once}
use Rattle.alists.specs.Lists.{column, largest}
use Rattle.alists.specs.OwnForm.{short}
use Rattle.alists.specs.Reading.{Word, in_size, most_fit, word, word_of, wrong}
use Rattle.alists.specs.Text.{line}

-- the bytes of a line say these numbers: as we write them, but for several spaces
pub record Says (bytes numbers : List ℕ) : Type 0 where
  pub below : short numbers ≡ true
  pub is : spaced_once (bytes ++ 10 ∷ []) ≡ line numbers

-- ---- lists

-- a list is the list of a word: it has its weight, no index twice, and zeros last
abbrev pub is_list : Word → Bool
is_list (word w) = true
is_list wrong = false

abbrev pub word_in : Word → ℕ
word_in (word w) = w
word_in wrong = 0

-- the words of the columns' lists, by their weights
abbrev pub words_in : ℕ → List ℕ → List (List ℕ) → List ℕ
words_in size [] lists = []
words_in size (w ∷ ws) [] = []
words_in size (w ∷ ws) (l ∷ lists) = word_in (word_of size w l) ∷ words_in size ws lists

-- a row's list is that of a word, and shows the columns' ones
abbrev pub shows_ones : Word → ℕ → Bool
shows_ones (word w) ones = eqb w ones
shows_ones wrong ones = false

-- after so many lists the next one fits: n lists of columns, m of rows, and no more
abbrev pub list_fits : ℕ → ℕ → ℕ → ℕ → List ℕ → List ℕ → List (List ℕ) → List ℕ → Bool
list_fits n m tall wide heights widths lists vs =
    cond (ltb (length lists) n) (eqb (length vs) tall && is_list (word_of m (get_or heights (length lists) 0) vs))
    (cond (ltb (length lists) (n + m))
    (eqb (length vs) wide
    && shows_ones (word_of n (get_or widths (length lists - n) 0) vs) (column (words_in m heights (take n lists)) (length lists - n)))
    false)

-- ---- lines

-- numbers fit as the line after those above, by their numbers: both sizes are 1 to 64; the largest weights fit the sizes; n column weights, and m
-- row weights, of which the largest is met; and the lists
abbrev pub fits : List (List ℕ) → List ℕ → Bool
fits [] vs = eqb (length vs) 2 && (in_size (get_or vs 0 0) && in_size (get_or vs 1 0))
fits (a ∷ []) vs = eqb (length vs) 2 && most_fit (get_or a 0 0) (get_or a 1 0) vs
fits (a ∷ b ∷ []) vs = eqb (length vs) (get_or a 0 0) && eqb (largest vs) (get_or b 0 0)
fits (a ∷ b ∷ c ∷ []) vs = eqb (length vs) (get_or a 1 0) && eqb (largest vs) (get_or b 1 0)
fits (a ∷ b ∷ c ∷ d ∷ lists) vs = list_fits (get_or a 0 0) (get_or a 1 0) (get_or b 0 0) (get_or b 1 0) c d lists vs

-- all lines have come: four, and a list for each column and each row
abbrev pub whole : List (List ℕ) → Bool
whole [] = false
whole (a ∷ []) = false
whole (a ∷ b ∷ []) = false
whole (a ∷ b ∷ c ∷ []) = false
whole (a ∷ b ∷ c ∷ d ∷ lists) = eqb (length lists) (get_or a 0 0 + get_or a 1 0)

-- The first of some lines that is faulty, missing or extra, counted from 1, those above it saying these numbers. What follows the last line feed is
-- no line: it is to be empty, once all lines have come. A line is faulty where it says no numbers that fit; else those after it are judged
abbrev pub FirstFaulty : List (List ℕ) → List (List ℕ) → ℕ → Type 0
FirstFaulty above [] k = ⊥
FirstFaulty above (l ∷ []) k = (k ≡ suc (length above)) × (whole above ≡ true → l ≡ [] → ⊥)
FirstFaulty above (l ∷ m ∷ ls) k =
    ((k ≡ suc (length above)) × ((vs : List ℕ) → Says l vs → fits above vs ≡ true → ⊥))
    ⊎ ((vs : List ℕ) × Says l vs × (fits above vs ≡ true) × FirstFaulty (above ++ vs ∷ []) (m ∷ ls) k)

-- none is
abbrev pub NoneFaulty : List (List ℕ) → List (List ℕ) → Type 0
NoneFaulty above [] = ⊥
NoneFaulty above (l ∷ []) = (whole above ≡ true) × (l ≡ [])
NoneFaulty above (l ∷ m ∷ ls) = (vs : List ℕ) × Says l vs × (fits above vs ≡ true) × NoneFaulty (above ++ vs ∷ []) (m ∷ ls)
