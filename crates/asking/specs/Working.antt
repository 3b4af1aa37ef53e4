-- What the steps of the call ask and give: where a word stops, its metric, and the answer that it is held against.
use Rattle.std.specs.Prelude.{ℕ, ◌*◌, ◌<◌, ◌≤◌, min, ℤ, pos, nat_abs, length, get_or, List, ◌≡◌}
use Rattle.words.specs.Span.{First}
use Rattle.plates.specs.declared.Plate.{Plate}
use Rattle.plates.specs.Prepare.{IsPrepared}
use Rattle.decoding.specs.declared.Answer.{Answer}
use Rattle.decoding.specs.Decode.{Best}
use Rattle.decoding.specs.Metric.{limit}

-- the first one of a rest that has one, and n where that is n or beyond
pub record FirstStop (rest n r : ℕ) : Type 0 where
  pub stop : 0 < rest → (q : ℕ) × First rest q × (r ≡ min q n)

-- a sample within the limit, and a metric to which it can be added
pub record AddingFits (sample metric : ℤ) : Type 0 where
  pub within : nat_abs sample ≤ limit
  pub small : nat_abs metric ≤ 64 * limit

-- at most 64 samples, all within the limit
pub record Sampled (samples : List ℤ) : Type 0 where
  pub few : length samples ≤ 64
  pub within : (i : ℕ) → i < length samples → nat_abs (get_or samples i (pos 0)) ≤ limit

-- a prepared plate, its samples, and the answer of decoding
pub record Asked (plate : Plate) (samples : List ℤ) (a : Answer) : Type 0 where
  pub given : IsPrepared plate
  pub size : length samples ≡ plate.n
  pub within : (i : ℕ) → i < length samples → nat_abs (get_or samples i (pos 0)) ≤ limit
  pub best : Best plate samples a
