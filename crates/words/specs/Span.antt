-- First ones and last ones of words, and rows whose first ones rise and whose last ones differ.
-- The two are one notion over an order of the positions.
use Rattle.std.specs.Prelude.{ℕ, ◌<◌, length, get_or, List, ◌≡◌}
use Rattle.words.specs.Word.{bit}

-- w has a one at p, and none at a position that B puts before p
pub record Lead (B : ℕ → ℕ → Type 0) (w p : ℕ) : Type 0 where
  pub one : bit w p ≡ 1
  pub zeros : (i : ℕ) → B i p → bit w i ≡ 0

abbrev pub Before : ℕ → ℕ → Type 0
Before i p = i < p

abbrev pub After : ℕ → ℕ → Type 0
After i p = p < i

-- p is the first one of w
abbrev pub First : ℕ → ℕ → Type 0
First w p = Lead Before w p

-- p is the last one of w
abbrev pub Last : ℕ → ℕ → Type 0
Last w p = Lead After w p

-- each row j has its lead at f j
abbrev pub Leads : (ℕ → ℕ → Type 0) → List ℕ → (ℕ → ℕ) → Type 0
Leads B rows f = (j : ℕ) → j < length rows → Lead B (get_or rows j 0) (f j)

-- f is different at each of the places 0 to k - 1
abbrev pub Apart : ℕ → (ℕ → ℕ) → Type 0
Apart k f = (i j : ℕ) → i < k → j < k → f i ≡ f j → i ≡ j

-- the rows have their first ones at f, which rise, and their last ones at l, which differ
pub record Spans (rows : List ℕ) (f l : ℕ → ℕ) : Type 0 where
  pub first : Leads Before rows f
  pub last : Leads After rows l
  pub rising : (i j : ℕ) → i < j → j < length rows → f i < f j
  pub apart : Apart (length rows) l
