-- The columns of the columns are the rows.
use lib.ListN.{get_or}
use mathlib.Core.List.{List, [], ◌∷◌}
use mathlib.Core.Path.{◌≡◌, sym, ◌∙◌}
use native.Mathlib.Omega.{arith}
use Prim.Native.Nat.{◌%◌, ◌*◌, ◌+◌, ◌<◌, ◌^◌, suc, zero, ℕ}
use Rattle.alists.proofs.Bounds.{columns-length}
use Rattle.alists.proofs.Filling.{column-small}
use Rattle.alists.specs.Lists.{column, columns, columns_from}
use Rattle.words.proofs.Word.{below-ext, bit-lt, bit-zero, half}
use Rattle.words.specs.Word.{bit}

-- position t of column j is position j of row t
bit-column : (rows : List ℕ) (j t : ℕ) → bit (column rows j) t ≡ bit (get_or rows t 0) j
bit-column [] j t = bit-zero t ∙ sym (bit-zero j)
bit-column (r ∷ rows) j zero = let l = bit-lt j r in let e : (column rows j * 2 + bit r j) % 2 ≡ bit r j = omega (arith, l) in e
bit-column (r ∷ rows) j (suc t) = rw (half (column rows j) (bit r j) (bit-lt j r)) (bit-column rows j t)

pub column-at : (rows : List ℕ) (i k t : ℕ) → t < k → get_or (columns_from rows i k) t 0 ≡ column rows (i + t)
column-at rows i zero t h = absurd (omega arith)
column-at rows i (suc k) zero h = let e : i + 0 ≡ i = omega arith in rw e
column-at rows i (suc k) (suc t) h = let e : i + suc t ≡ suc i + t = omega arith in rw e (column-at rows (suc i) k t (omega arith))

pub column-of-columns : (n : ℕ) (rows : List ℕ) (j : ℕ) → get_or rows j 0 < 2 ^ n → column (columns n rows) j ≡ get_or rows j 0
column-of-columns n rows j h =
    let l = columns-length rows 0 n in
    below-ext n (column (columns n rows) j) (get_or rows j 0) (rw l at (column-small (columns n rows) j)) h
    (λ t k. bit-column (columns n rows) j t ∙ same t k)
  where
    same : (t : ℕ) → t < n → bit (get_or (columns_from rows 0 n) t 0) j ≡ bit (get_or rows j 0) t
    same t k = let e : 0 + t ≡ t = omega arith in rw (column-at rows 0 n t k, e) (bit-column rows t j)
