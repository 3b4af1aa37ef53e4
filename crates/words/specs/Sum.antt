-- Sums modulo 2 of rows.
use Rattle.std.specs.Prelude.{ℕ, zero, suc, ◌/◌, ◌%◌, get_or, set, List, [], ◌∷◌, ◌≡◌}
use Rattle.std.specs.Int.Bits.{bit_xor}

-- the row where the digit is 1, and the zero word where it is 0
abbrev pub taken : ℕ → ℕ → ℕ
taken zero r = 0
taken (suc d) r = r

-- the sum modulo 2 of the rows that the number u takes: bit j of u takes row j
abbrev pub sum_of : List ℕ → ℕ → ℕ
sum_of [] u = 0
sum_of (r ∷ rs) u = bit_xor (taken (u % 2) r) (sum_of rs (u / 2))

-- w is a sum modulo 2 of rows, the empty sum included
pub record IsSum (rows : List ℕ) (w : ℕ) : Type 0 where
  pub by : ℕ
  pub sum : sum_of rows by ≡ w

-- row i gains row j
abbrev pub add_row : List ℕ → ℕ → ℕ → List ℕ
add_row rows i j = set rows i (bit_xor (get_or rows i 0) (get_or rows j 0))

-- rows i and j are exchanged
abbrev pub swap_rows : List ℕ → ℕ → ℕ → List ℕ
swap_rows rows i j = set (set rows i (get_or rows j 0)) j (get_or rows i 0)
