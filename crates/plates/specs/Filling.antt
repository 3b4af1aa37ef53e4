-- The working table of a matrix: rows whose sums are the matrix's code.
use Rattle.std.specs.Prelude.{get_or, length, List, ◌↔◌, ◌≡◌, ◌<◌, ◌^◌, ℕ, ◌≤◌}
use Rattle.plates.specs.Code.{InCode}
use Rattle.plates.specs.declared.Kind.{Kind}
use Rattle.plates.specs.Working.{Table}
use Rattle.words.specs.Parity.{parity}
use Rattle.words.specs.Sum.{IsSum}

-- t holds f 0, f 1 and so on in its first m places, and zero words in the others
pub record Holds (t : List ℕ) (f : ℕ → ℕ) (m : ℕ) : Type 0 where
  pub size : length t ≡ 64
  pub here : (j : ℕ) → j < m → get_or t j 0 ≡ f j
  pub zeros : (j : ℕ) → m ≤ j → get_or t j 0 ≡ 0

-- the unit words
abbrev pub unit : ℕ → ℕ
unit j = 2 ^ j

-- the rows of a matrix
abbrev pub row_at : List ℕ → ℕ → ℕ
row_at rows j = get_or rows j 0

-- the sums of u are the sums of t that pass the first m checks
pub record Passing (t u : List ℕ) (n : ℕ) (checks : List ℕ) (m : ℕ) : Type 0 where
  pub table : Table u n n
  pub words : (w : ℕ) → IsSum u w ↔ (IsSum t w × ((j : ℕ) → j < m → parity (get_or checks j 0) w ≡ 0))

-- the sums of u are the sums of t that pass one check
pub record PassingOne (t u : List ℕ) (n check : ℕ) : Type 0 where
  pub table : Table u n n
  pub words : (w : ℕ) → IsSum u w ↔ (IsSum t w × (parity check w ≡ 0))

-- t holds rows of length n in its first `used` places, and their sums are the code of the matrix
pub record Filled (n : ℕ) (kind : Kind) (rows t : List ℕ) (used : ℕ) : Type 0 where
  pub table : Table t n used
  pub code : (w : ℕ) → IsSum t w ↔ InCode kind n rows w
