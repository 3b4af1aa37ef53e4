-- Heads, and the row that a plate has for each.
use Rattle.std.specs.Prelude.{ℕ, ◌≤◌, ◌<◌, length, get_or, List, ◌⊎◌, ◌≡◌}
use Rattle.words.specs.Span.{First, Last}
use Rattle.words.specs.Word.{Earlier}

-- The row of the code C for the head p, ending at m: among codewords whose first one is at p, those whose last one comes soonest,
-- and of these the earliest
pub record RowFor (C : ℕ → Type 0) (p r m : ℕ) : Type 0 where
  pub codeword : C r
  pub begins : First r p
  pub ends : Last r m
  pub soonest : (w q : ℕ) → C w → First w p → Last w q → m ≤ q
  pub earliest : (w : ℕ) → C w → First w p → Last w m → (r ≡ w) ⊎ Earlier r w

-- One row for each head, a position where some codeword has its first one, in order of heads: row j is for the head f j, and ends at l j
pub record RowsOf (C : ℕ → Type 0) (rows : List ℕ) (f l : ℕ → ℕ) : Type 0 where
  pub row : (j : ℕ) → j < length rows → RowFor C (f j) (get_or rows j 0) (l j)
  pub order : (i j : ℕ) → i < j → j < length rows → f i < f j
  pub heads : (w p : ℕ) → C w → First w p → (j : ℕ) × (j < length rows) × (f j ≡ p)
