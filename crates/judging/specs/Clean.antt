-- Lines that refusals 28, 26 and 27 do not meet.
use Rattle.std.specs.Prelude.{get_or, length, false, List, ◌≡◌, ◌<◌, ℕ, ◌≤◌, Option, Some, None}
use Rattle.sheets.specs.declared.listed.Branch.{Branch}
use Rattle.judging.specs.Listing.{faulty_at, repeats_at}

-- a branch of a listing against a plate of length n
pub record Ranged (n : ℕ) (b : Branch) : Type 0 where
  pub depth_small : b.depth < n
  pub from_small : b.from < 1024
  pub bit_small : b.bit < 2
  pub to_small : b.to < 1024

-- a line says a branch in range, or is bad
abbrev pub RangedLine : ℕ → Option Branch → Type 0
RangedLine n (Some b) = Ranged n b
RangedLine n None = Unit {0}

-- the lines of a listing that 28, 26 and 27 do not meet
pub record Clean (n : ℕ) (es : List (Option Branch)) : Type 0 where
  pub few : length es ≤ 1024
  pub short : n ≤ 64
  pub ranged : (i : ℕ) → RangedLine n (get_or es i None)
  pub faultless : (i : ℕ) → i < length es → faulty_at es i ≡ false
  pub single : (i : ℕ) → i < length es → repeats_at es i ≡ false
