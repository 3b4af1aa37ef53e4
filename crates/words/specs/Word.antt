-- A word by position, and which of two words is earlier.
use Rattle.std.specs.Prelude.{ℕ, zero, suc, ◌/◌, ◌%◌, ◌<◌, ◌≡◌}

-- position i of a word: the bit of weight 2 ^ i, so position 0 is the low bit
abbrev pub bit : ℕ → ℕ → ℕ
bit w zero = w % 2
bit w (suc i) = bit (w / 2) i

-- a is earlier than b: a has 0 at their first (lowest) differing position
pub record Earlier (a b : ℕ) : Type 0 where
  pub place : ℕ
  pub same : (i : ℕ) → i < place → bit a i ≡ bit b i
  pub zero_here : bit a place ≡ 0
  pub one_there : bit b place ≡ 1
