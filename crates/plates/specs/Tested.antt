-- What the test of a plate finds on its way, row by row and depth by depth.
use Rattle.std.specs.Prelude.{ℕ, ◌^◌, ◌≤◌, ◌<◌, ltb, length, get_or, Bool, true, false, List, ◌⊎◌, ◌≡◌}
use Rattle.words.specs.Choice.{more}
use Rattle.words.specs.Ends.{first, last, firsts, lasts}
use Rattle.words.specs.Span.{Spans}
use Rattle.words.specs.Word.{bit}
use Rattle.plates.specs.Profile.{live_at}

-- r says whether P holds
pub record Decides (P : Type 0) (r : Bool) : Type 0 where
  pub yes_is : r ≡ true → P
  pub no_is : r ≡ false → P → ⊥

-- ---- rows by their last ones

-- the table has the number of each of the first i rows at the row's last one, and 64 at the other positions
pub record ByLast (rows : List ℕ) (i : ℕ) (table : List ℕ) : Type 0 where
  pub size : length table ≡ 64
  pub row : (j : ℕ) → j < i → get_or table (lasts rows j) 0 ≡ j
  pub other : (p : ℕ) → p < 64 → (get_or table p 0 ≡ 64) ⊎ ((get_or table p 0 < i) × (lasts rows (get_or table p 0) ≡ p))

-- a row may come next: it has a one, none at n or beyond, begins at `from` or after, and no row of the table ends where it does
pub record MayFollow (n from : ℕ) (table : List ℕ) (row : ℕ) : Type 0 where
  pub some : 0 < row
  pub below : row < 2 ^ n
  pub begins : from ≤ first row
  pub free : 64 ≤ get_or table (last row) 0

-- the first ones of the rows rise, their last ones differ, and no row has a one at n or beyond
pub record Standing (n : ℕ) (rows : List ℕ) : Type 0 where
  pub spans : Spans rows (firsts rows) (lasts rows)
  pub below : (j : ℕ) → j < length rows → get_or rows j 0 < 2 ^ n

-- whether the rows are so, and where they are, the table of all of them
pub record Placed (n : ℕ) (rows table : List ℕ) (r : Bool) : Type 0 where
  pub decides : Decides (Standing n rows) r
  pub by_last : r ≡ true → ByLast rows (length rows) table

-- r is the row that ends at t, and 0 where none does
pub data RowEnding (rows : List ℕ) (t : ℕ) : ℕ → Type 0 where
  no_row : ((j : ℕ) → j < length rows → lasts rows j ≡ t → ⊥) → RowEnding rows t 0
  row_at : (j : ℕ) → j < length rows → lasts rows j ≡ t → RowEnding rows t (get_or rows j 0)

-- the word has its ones at the heads of the rows that Q holds of
pub record HeadsOf (rows : List ℕ) (Q : ℕ → Type 0) (word : ℕ) : Type 0 where
  pub all : (j : ℕ) → j < length rows → Q j → bit word (firsts rows j) ≡ 1
  pub only : (p : ℕ) → bit word p ≡ 1 → (j : ℕ) × (j < length rows) × Q j × (firsts rows j ≡ p)

-- r is the word with a one at the row's head only, and 0 for the zero word
pub record HeadWord (row r : ℕ) : Type 0 where
  pub none : row ≡ 0 → r ≡ 0
  pub some : 0 < row → r ≡ 2 ^ first row

-- each row has 0 at the head of every row that ends sooner
pub record Cleared (rows : List ℕ) : Type 0 where
  pub clear : (i j : ℕ) → i < length rows → j < length rows → lasts rows j < lasts rows i → bit (get_or rows i 0) (firsts rows j) ≡ 0

-- ---- the profile, and zeros

-- 1 where the table says that a row ends at t, and 0 where not
abbrev pub ending_at : List ℕ → ℕ → ℕ
ending_at table t = more (ltb (get_or table t 0) 64) 0

-- the entries at depths 0 to n are the rows' own, and at most 12
pub record Profiled (n : ℕ) (rows profile : List ℕ) : Type 0 where
  pub entry : (t : ℕ) → t ≤ n → get_or profile t 0 ≡ live_at rows t
  pub narrow : (t : ℕ) → t ≤ n → live_at rows t ≤ 12

-- the rows in use, and their profile, are those of a plate
pub record UsedSound (n : ℕ) (rows profile : List ℕ) : Type 0 where
  pub standing : Standing n rows
  pub cleared : Cleared rows
  pub profiled : Profiled n rows profile

-- there is nothing but 0 from a place on
pub record ZeroFrom (from : ℕ) (list : List ℕ) : Type 0 where
  pub zeros : (j : ℕ) → from ≤ j → get_or list j 0 ≡ 0
