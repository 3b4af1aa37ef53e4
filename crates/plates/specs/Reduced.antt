-- Plate rows in a form that can be tested row by row: rising first ones, different last ones, and 0 where a row inside their span begins.
use Rattle.std.specs.Prelude.{ℕ, ◌<◌, length, get_or, List, ◌≡◌}
use Rattle.words.specs.Span.{Spans}
use Rattle.words.specs.Word.{bit}

-- the rows have spans, and row i has 0 where a later row j begins that ends sooner
pub record Reduced (rows : List ℕ) (f l : ℕ → ℕ) : Type 0 where
  pub spans : Spans rows f l
  pub reduced : (i j : ℕ) → i < j → j < length rows → l j < l i → bit (get_or rows i 0) (f j) ≡ 0
