-- How the weights of a plate and its largest profile entry cross the interface: the cells, and the promises of the two calls.
use Rattle.std.specs.Prelude.{set, List, [], ◌∷◌, ◌≡◌, ℕ, Option, Some, None}
use Rattle.decoding.specs.Decode.{widest}
use Rattle.exports.specs.Calls.{Calls, Crossing, done}
use Rattle.std.specs.Prelude.{Err, Ok, Result}
use Rattle.exports.specs.Flat.{plate_of}
use Rattle.exports.specs.Promises.{HasCell, PlateLong}
use Rattle.plates.specs.declared.Plate.{Plate}
use Rattle.plates.specs.declared.Refusal.{Refusal}
use Rattle.plates.specs.Prepare.{not_prepared}
use Rattle.plates.specs.Refusals.{Passes, Refuses, number}
use Rattle.weights.specs.Weights.{CountsWeights}

-- ---- the weights

-- the cells that are lent to the call
pub record WeightCells : Type 0 where
  pub counts : List ℕ
  pub working : List ℕ
  pub least : List ℕ

-- the same, one by one
abbrev pub weight_cells : List ℕ → List ℕ → List ℕ → WeightCells
weight_cells counts working least = record { counts = counts; working = working; least = least }

-- what the call below replies, with the two rooms as it leaves them
pub record Weighing : Type 0 where
  pub reply : Result (Option ℕ) Refusal
  pub counts : List ℕ
  pub working : List ℕ

-- the smallest weight above 0, and 0 where there is none; a refusal leaves its cell
abbrev pub weighed_as : WeightCells → List ℕ → List ℕ → Result (Option ℕ) Refusal → Crossing WeightCells
weighed_as lent counts working (Ok (Some w)) = record { code = done; cells = weight_cells counts working (set lent.least 0 w) }
weighed_as lent counts working (Ok None) = record { code = done; cells = weight_cells counts working (set lent.least 0 0) }
weighed_as lent counts working (Err q) = record { code = number q; cells = weight_cells counts working lent.least }

abbrev pub weighed : WeightCells → Weighing → Crossing WeightCells
weighed lent w = weighed_as lent w.counts w.working w.reply

-- what the call below promises of its reply and its rooms
abbrev pub WeighsTo : Plate → WeightCells → Weighing → Type 0
WeighsTo plate lent w = CountsWeights plate lent.counts lent.working w.counts w.working w.reply

-- fixed are the plate's run and a cell for the smallest weight; the counts and the working room the call below tests itself
abbrev pub CallsWeights : List ℕ → WeightCells → ℕ → WeightCells → Type 0
CallsWeights words lent r lent' =
    Calls (PlateLong words × HasCell lent.least) lent (WeighsTo (plate_of words) lent) (weighed lent) (record { code = r; cells = lent' })

-- ---- the largest profile entry

-- the one refusal of the call: 5
abbrev pub widest_conditions : Plate → List (Refusal → Type 0)
widest_conditions plate = not_prepared plate ∷ []

-- m of a prepared plate, or the refusal
abbrev pub TellsWidest : Plate → Result ℕ Refusal → Type 0
TellsWidest plate (Ok m) = Passes (widest_conditions plate) × (m ≡ widest plate)
TellsWidest plate (Err q) = Refuses (widest_conditions plate) q

-- m in its cell
abbrev pub width_as : List ℕ → Result ℕ Refusal → Crossing (List ℕ)
width_as cell (Ok m) = record { code = done; cells = set cell 0 m }
width_as cell (Err q) = record { code = number q; cells = cell }

-- fixed are the plate's run and a cell for the answer
abbrev pub CallsWidest : List ℕ → List ℕ → ℕ → List ℕ → Type 0
CallsWidest words cell r cell' =
    Calls (PlateLong words × HasCell cell) cell (TellsWidest (plate_of words)) (width_as cell) (record { code = r; cells = cell' })
