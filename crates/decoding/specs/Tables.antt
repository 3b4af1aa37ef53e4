-- Tables of signs and ties: of 32 bits, and of their complements.
use Rattle.std.specs.Prelude.{nat_abs, pos, ℤ, get_or, length, set, List, ◌≡◌, ◌%◌, ◌*◌, ◌+◌, ◌-◌, ◌<◌, ◌^◌, ℕ, ◌≤◌}
use Rattle.decoding.specs.Taking.{signed}
use Rattle.words.specs.Word.{bit}

-- the weight of each position of 32
pub record Weights (weights : List ℕ) : Type 0 where
  pub size : length weights ≡ 32
  pub weight : (i : ℕ) → i < 32 → get_or weights i 0 ≡ 2 ^ i

-- bit i of w, and of its complement where h is 1
abbrev pub turned_bit : ℕ → ℕ → ℕ → ℕ
turned_bit w h i = (h + bit w i) % 2

-- signs and ties of the bits of w, and 32 places on those of its complement
pub record Tables (w : ℕ) (y : ℤ) (signs ties : List ℤ) : Type 0 where
  pub signs_size : length signs ≡ 64
  pub ties_size : length ties ≡ 64
  pub sign : (h i : ℕ) → h < 2 → i < 32 → get_or signs (h * 32 + i) (pos 0) ≡ signed (turned_bit w h i) y
  pub tie : (h i : ℕ) → h < 2 → i < 32 → get_or ties (h * 32 + i) (pos 0) ≡ pos (turned_bit w h i)

-- what entering a bit asks
pub record EnterFits (signs ties : List ℤ) (i d : ℕ) (y : ℤ) : Type 0 where
  pub signs_size : length signs ≡ 64
  pub ties_size : length ties ≡ 64
  pub place : i < 32
  pub digit : d < 2
  pub gain : nat_abs y ≤ 2 ^ 20

-- a bit's sign and tie are entered, and the other bit's 32 places on
pub record Entered (signs ties : List ℤ) (i d : ℕ) (y : ℤ) (signs' ties' : List ℤ) : Type 0 where
  pub sign : signs' ≡ set (set signs i (signed d y)) (i + 32) (signed (1 - d) y)
  pub tie : ties' ≡ set (set ties i (pos d)) (i + 32) (pos (1 - d))

-- what filling the tables asks
pub record FillFits (signs ties : List ℤ) (weights : List ℕ) (y : ℤ) : Type 0 where
  pub signs_size : length signs ≡ 64
  pub ties_size : length ties ≡ 64
  pub masks : Weights weights
  pub gain : nat_abs y ≤ 2 ^ 20
