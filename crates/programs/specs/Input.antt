-- What was read of the input.
use Rattle.std.specs.Prelude.{length, take, Bool, false, true, List, [], ◌++◌, ◌≡◌, ◌<◌, ◌≤◌, ℕ}
use Rattle.programs.specs.declared.streams.Got.{Got}

-- so many bytes are the beginning of a room
abbrev pub IsPrefixLen : ℕ → List ℕ → Type 0
IsPrefixLen n xs = (n ≤ length xs) × (n ≡ length (take n xs))

-- reading that did not stop at the end of the input filled the room
pub record Stopped (got : Got) (room : List ℕ) : Type 0 where
  pub full : got.ended ≡ false → got.size ≡ length room

-- what was read is all of the input, or is already longer than a sheet may be
pub record StandsFor (ended : Bool) (read : List ℕ) : Type 0 where
  pub long : ended ≡ false → 32768 < length read

-- the whole input: what was read, and behind it, where the end was not met, anything
pub record Whole (ended : Bool) (read whole : List ℕ) : Type 0 where
  pub rest : List ℕ
  pub is : whole ≡ read ++ rest
  pub none : ended ≡ true → rest ≡ []
