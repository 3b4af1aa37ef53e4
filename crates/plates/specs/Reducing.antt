-- What each stage of reducing leaves: rising first ones, different last ones, and 0 where a row inside begins.
use Rattle.std.specs.Prelude.{get_or, take, List, ◌≡◌, ◌<◌, ℕ, ◌≤◌}
use Rattle.plates.specs.Reduced.{Reduced}
use Rattle.plates.specs.Working.{SameSums, Table}
use Rattle.words.specs.Ends.{firsts, last, lasts}
use Rattle.words.specs.Span.{First}
use Rattle.words.specs.Word.{bit}

-- ---- first ones

-- the first k rows have their first ones in rising order before c, and the others have none before c
pub record Echelon (t : List ℕ) (used k c : ℕ) : Type 0 where
  pub table : Table t 64 used
  pub few : k ≤ used
  pub begins : (i : ℕ) → i < k → First (get_or t i 0) (firsts t i)
  pub before : (i : ℕ) → i < k → firsts t i < c
  pub rising : (i j : ℕ) → i < j → j < k → firsts t i < firsts t j
  pub rest : (i p : ℕ) → k ≤ i → p < c → bit (get_or t i 0) p ≡ 0

-- u is such a table, with the sums of t
pub record EchelonFrom (t u : List ℕ) (used k c : ℕ) : Type 0 where
  pub same : SameSums t u
  pub shape : Echelon u used k c

-- the table has k rows, whose first ones rise
pub record Basis (t : List ℕ) (k : ℕ) : Type 0 where
  pub table : Table t 64 k
  pub begins : (i : ℕ) → i < k → First (get_or t i 0) (firsts t i)
  pub rising : (i j : ℕ) → i < j → j < k → firsts t i < firsts t j

-- u is such a table, with the sums of t
pub record BasisFrom (t u : List ℕ) (k : ℕ) : Type 0 where
  pub same : SameSums t u
  pub basis : Basis u k

-- ---- last ones

-- last ones at c or after differ
abbrev pub Parted : List ℕ → ℕ → ℕ → Type 0
Parted t k c = (i j : ℕ) → i < j → j < k → lasts t i ≡ lasts t j → lasts t i < c

-- u is a basis whose last ones at c or after differ, with the sums of t
pub record PartedFrom (t u : List ℕ) (k c : ℕ) : Type 0 where
  pub same : SameSums t u
  pub basis : Basis u k
  pub parted : Parted u k c

-- ---- rows inside

-- the word ends after l, and has a one at f
pub record Covers (f l w : ℕ) : Type 0 where
  pub ends : l < last w
  pub one : bit w f ≡ 1

-- each row has 0 at the first one of each later row before row j that lies inside it
abbrev pub Cleared : List ℕ → ℕ → Type 0
Cleared t j = (i m : ℕ) → i < m → m < j → lasts t m < lasts t i → bit (get_or t i 0) (firsts t m) ≡ 0

-- u is a basis with different last ones, clear of the rows before row j, with the sums of t
pub record ClearedFrom (t u : List ℕ) (k j : ℕ) : Type 0 where
  pub same : SameSums t u
  pub basis : Basis u k
  pub parted : Parted u k 0
  pub cleared : Cleared u j

-- ---- the whole

-- the first k rows of the table are plate rows of length n
pub record PlateRows (t : List ℕ) (n k : ℕ) : Type 0 where
  pub table : Table t n k
  pub reduced : Reduced (take k t) (firsts (take k t)) (lasts (take k t))

-- u is such a table, with the sums of t
pub record ReducedFrom (t u : List ℕ) (n k : ℕ) : Type 0 where
  pub same : SameSums t u
  pub rows : PlateRows u n k
