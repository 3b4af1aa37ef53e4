-- The code of a matrix, and the words that a mask makes of a code.
use Rattle.std.specs.Prelude.{ℕ, ◌^◌, ◌<◌, length, get_or, List, ◌≡◌}
use Rattle.std.specs.Int.Bits.{bit_xor}
use Rattle.words.specs.Parity.{parity}
use Rattle.words.specs.Sum.{IsSum}
use Rattle.plates.specs.declared.Kind.{Kind}
use Rattle.plates.specs.declared.Kind.TheVariants.{G, H}

-- a word of length n with an even number of ones in common with every row
pub record Checked (n : ℕ) (rows : List ℕ) (w : ℕ) : Type 0 where
  pub below : w < 2 ^ n
  pub even : (j : ℕ) → j < length rows → parity (get_or rows j 0) w ≡ 0

-- w is a codeword: as generator the code of a matrix is all sums of rows, as parity check all words that every row checks
abbrev pub InCode : Kind → ℕ → List ℕ → ℕ → Type 0
InCode G n rows w = IsSum rows w
InCode H n rows w = Checked n rows w

-- the words that a mask makes of the code C: codewords plus mask modulo 2, so those that are a codeword once the mask is added
abbrev pub Masked : (ℕ → Type 0) → ℕ → ℕ → Type 0
Masked C mask w = C (bit_xor w mask)
