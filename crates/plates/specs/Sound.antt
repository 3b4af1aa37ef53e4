-- What can be tested of a plate, row by row: it is prepared exactly if all of this holds (proofs/SoundIsPrepared).
use Rattle.std.specs.Prelude.{ℕ, ◌^◌, ◌≤◌, ◌<◌, length, get_or, ◌≡◌}
use Rattle.words.specs.Ends.{firsts, lasts}
use Rattle.plates.specs.declared.Plate.{Plate}
use Rattle.plates.specs.Prepare.{rows_of}
use Rattle.plates.specs.Profile.{live_at}
use Rattle.plates.specs.Reduced.{Reduced}

pub record Sound (plate : Plate) : Type 0 where
  pub positive : 1 ≤ plate.n
  pub short : plate.n ≤ 64
  pub few : plate.k ≤ 64
  pub masked : plate.mask < 2 ^ plate.n
  pub table : length plate.rows ≡ 64
  pub below : (j : ℕ) → j < plate.k → get_or plate.rows j 0 < 2 ^ plate.n
  pub reduced : Reduced (rows_of plate) (firsts (rows_of plate)) (lasts (rows_of plate))
  pub unused_rows : (j : ℕ) → plate.k ≤ j → get_or plate.rows j 0 ≡ 0
  pub entries : length plate.profile ≡ 65
  pub profile : (t : ℕ) → t ≤ plate.n → get_or plate.profile t 0 ≡ live_at (rows_of plate) t
  pub unused_entries : (t : ℕ) → plate.n < t → get_or plate.profile t 0 ≡ 0
  pub narrow : (t : ℕ) → t ≤ plate.n → live_at (rows_of plate) t ≤ 12
