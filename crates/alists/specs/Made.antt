-- A matrix that was read, by its numbers.
use Rattle.std.specs.Prelude.{ℕ}
use Rattle.alists.specs.declared.Matrix.{Matrix}

-- n columns and so many rows
abbrev pub matrix_of : ℕ → ℕ → Matrix
matrix_of n count = record { n = n; count = count }
