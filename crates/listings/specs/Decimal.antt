-- Numbers as a listing prints them.
use Rattle.std.specs.Prelude.{ltb, nat_abs, pos, ℤ, cond, ◌++◌, List, [], ◌∷◌, ◌%◌, ◌+◌, ◌/◌, suc, zero, ℕ}
use Rattle.std.specs.Int.Signed.{lt_z}

-- the last k digits of a number, or all of them where it has no more, with no leading zero but for 0 itself
abbrev pub digits : ℕ → ℕ → List ℕ
digits zero value = []
digits (suc k) value = cond (ltb value 10) [] (digits k (value / 10)) ++ (48 + value % 10) ∷ []

-- a number of at most 64 bits, which has at most 20 digits
unfoldable pub decimal : ℕ → List ℕ
decimal value = digits 20 value

-- a number with a minus exactly when it is below 0
unfoldable pub signed_decimal : ℤ → List ℕ
signed_decimal value = cond (lt_z value (pos 0)) (45 ∷ decimal (nat_abs value)) (decimal (nat_abs value))
