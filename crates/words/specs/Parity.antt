-- The parity of a word with another.
use Rattle.std.specs.Prelude.{ℕ, ◌%◌}
use Rattle.std.specs.Int.Bits.{bit_and}
use Rattle.std.specs.Int.Count.{ones}

-- 0 where a and b have an even number of ones in common, and 1 where an odd number
abbrev pub parity : ℕ → ℕ → ℕ
parity a b = ones (bit_and a b) % 2
