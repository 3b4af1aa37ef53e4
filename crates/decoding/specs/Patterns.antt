-- The bits of 64 states as one word.
use Rattle.std.specs.Prelude.{◌≡◌, ◌%◌, ◌*◌, ◌+◌, ◌/◌, ◌<◌, ℕ}
use Rattle.words.specs.Parity.{parity}
use Rattle.words.specs.Word.{bit}

-- r has the parities of the low three digits, and of the high three, of the numbers 0 to 63 with a column of three digits
pub record LowPattern (column r : ℕ) : Type 0 where
  pub bits : (i : ℕ) → i < 64 → bit r i ≡ parity (i % 8) column

pub record HighPattern (column r : ℕ) : Type 0 where
  pub bits : (i : ℕ) → i < 64 → bit r i ≡ parity (i / 8) column

-- r has the parities of the numbers 0 to 63 with a column
pub record Pattern (column r : ℕ) : Type 0 where
  pub bits : (i : ℕ) → i < 64 → bit r i ≡ parity i column

-- what turning a pattern to the states of another word asks
pub record TurnFits (w column first : ℕ) : Type 0 where
  pub pattern : Pattern column w
  pub block : ℕ
  pub aligned : first ≡ block * 64

-- r has the parities of 64 numbers from `first` on
pub record Turned (column first r : ℕ) : Type 0 where
  pub bits : (i : ℕ) → i < 64 → bit r i ≡ parity (first + i) column
