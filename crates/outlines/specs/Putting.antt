-- What the functions within the crate promise.
use Rattle.std.specs.Prelude.{length, List, ◌≡◌, ◌+◌, ◌<◌, ℕ}
use Rattle.std.proofs.lemmas.List.Edits.{sets}

-- text put into a room from a place on, as far as the room goes, and the next place; nothing more is said where that is no number of 64 bits
pub record Puts (room : List ℕ) (at : ℕ) (text room' : List ℕ) (r : ℕ) : Type 0 where
  pub size : length room' ≡ length room
  pub stands : at + length text < 18446744073709551616 → room' ≡ sets room at text
  pub next : at + length text < 18446744073709551616 → r ≡ at + length text
