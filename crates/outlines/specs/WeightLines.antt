-- The weights of an input's plate, printed line by line, and what writing them replies and leaves in what was lent.
use Rattle.std.specs.Prelude.{eqb, drop, get_or, length, replicate, Bool, cond, false, true, ◌++◌, List, [], ◌∷◌, ◌≡◌, ◌+◌, ◌<◌, suc, ℕ, ◌≤◌, Result, Ok, Err}
use Rattle.listings.specs.Lines.{least_line, no_least_line, weight_line}
use Rattle.outlines.specs.declared.opening.Which.TheVariants.{Own}
use Rattle.outlines.specs.Opening.{Opened}
use Rattle.plates.specs.declared.Plate.{Plate}
use Rattle.plates.specs.declared.Prepared.{Prepared}
use Rattle.plates.specs.declared.Refusal.{Refusal}
use Rattle.plates.specs.declared.Refusal.TheVariants.{LineRoom, MetricRoom}
use Rattle.plates.specs.Refusals.{Passes, Refuses}
use Rattle.weights.specs.Weights.{LeastIs, NumberOfWeight, whole_space, working_need}

-- ---- the text

-- the line of a weight, and nothing where its count is 0
unfoldable pub weight_part : ℕ → ℕ → List ℕ
weight_part weight count = cond (eqb count 0) [] (weight_line weight count)

-- the lines of some counts in order of weight, of which the first is the count of the weight w
abbrev pub weight_lines : ℕ → List ℕ → List ℕ
weight_lines w [] = []
weight_lines w (count ∷ counts) = weight_part w count ++ weight_lines (suc w) counts

-- the last line: the smallest weight above zero, or that there is none
unfoldable pub last_line : Bool → ℕ → List ℕ
last_line true least = no_least_line
last_line false least = least_line least

-- all of them
abbrev pub weights_text : List ℕ → Bool → ℕ → List ℕ
weights_text counts none least = weight_lines 0 counts ++ last_line none least

-- the text of a plate's weights: the lines of the weights 0 to n by how many codewords have each, and the last line
pub record WeightText (plate : Plate) (text : List ℕ) : Type 0 where
  pub counts : List ℕ
  pub size : length counts ≡ plate.n + 1
  pub numbers : (w : ℕ) → w ≤ plate.n → NumberOfWeight plate w (get_or counts w 0)
  pub none : Bool
  pub least : ℕ
  pub least_is : LeastIs plate none least
  pub is : text ≡ weights_text counts none least

-- the text that `write_weights` writes for an input that is not refused
pub record PrintsWeights (input text : List ℕ) : Type 0 where
  pub prepared : Prepared
  pub opened : Opened Own input prepared
  pub accepted : prepared.verdict ≡ Ok tt
  pub is : WeightText prepared.plate text

-- ---- the refusals of a plate, in order: 22, 8, 11

-- 8: the working room has fewer numbers than it needs
abbrev pub short_working : Plate → ℕ → Refusal → Type 0
short_working plate lent q = (lent < working_need plate) × (q ≡ MetricRoom)

-- 11: the room has fewer than 2,048 bytes, which are enough for the text of every plate; the text is not known before it is counted, and counting
-- changes the working room
abbrev pub short_text : List ℕ → Refusal → Type 0
short_text room q = (length room < 2048) × (q ≡ LineRoom)

abbrev pub weighing_conditions : Plate → List ℕ → List ℕ → List (Refusal → Type 0)
weighing_conditions plate working room = whole_space plate ∷ short_working plate (length working) ∷ short_text room ∷ []

-- ---- the reply

-- the text stands at the start of the room, the bytes after it as they were; the needed working room is all zero, and the rest of it as it was
pub record WeightsGiven (plate : Plate) (working room : List ℕ) (size : ℕ) (working' room' : List ℕ) : Type 0 where
  pub text : List ℕ
  pub is_text : WeightText plate text
  pub size_is : size ≡ length text
  pub room_is : room' ≡ text ++ drop (length text) room
  pub zeroed : working' ≡ replicate (working_need plate) 0 ++ drop (working_need plate) working

-- of a plate: the first refusal in order with both rooms as they were, or the text
abbrev pub WeighsAs : Plate → List ℕ → List ℕ → List ℕ → List ℕ → Result ℕ Refusal → Type 0
WeighsAs plate working room working' room' (Err q) = Refuses (weighing_conditions plate working room) q × (working' ≡ working) × (room' ≡ room)
WeighsAs plate working room working' room' (Ok size) =
    Passes (weighing_conditions plate working room) × WeightsGiven plate working room size working' room'

pub record Weighs (plate : Plate) (working room : List ℕ) (r : Result ℕ Refusal) (working' room' : List ℕ) : Type 0 where
  pub is : WeighsAs plate working room working' room' r

-- by the verdict on the input: its refusal with both rooms as they were, or what is replied of its plate
abbrev pub WeighsBy : Result (Unit {0}) Refusal → Plate → List ℕ → List ℕ → Result ℕ Refusal → List ℕ → List ℕ → Type 0
WeighsBy (Err q) plate working room r working' room' = (r ≡ Err q) × (working' ≡ working) × (room' ≡ room)
WeighsBy (Ok _) plate working room r working' room' = Weighs plate working room r working' room'

-- the promise of `write_weights`
pub record WritesWeights (input working room : List ℕ) (r : Result ℕ Refusal) (working' room' : List ℕ) : Type 0 where
  pub prepared : Prepared
  pub opened : Opened Own input prepared
  pub is : WeighsBy prepared.verdict prepared.plate working room r working' room'
