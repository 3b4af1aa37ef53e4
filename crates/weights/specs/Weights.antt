-- The weights of a plate, and what counting them replies and leaves in the lent rooms.
use Rattle.std.specs.Int.Count.{ones}
use Rattle.std.specs.Prelude.{drop, get_or, length, replicate, Bool, false, true, List, [], ◌++◌, ◌∷◌, ◌⊎◌, ◌≡◌, ◌*◌, ◌<◌, ◌^◌, ℕ, ◌≤◌, Result, Ok, Err, Option, Some, None}
use Rattle.decoding.specs.Decode.{widest}
use Rattle.plates.specs.declared.Plate.{Plate}
use Rattle.plates.specs.declared.Refusal.{Refusal}
use Rattle.plates.specs.declared.Refusal.TheVariants.{MetricRoom, WholeSpace}
use Rattle.plates.specs.Prepare.{IsPrepared, not_prepared, rows_of}
use Rattle.plates.specs.Refusals.{Passes, Refuses}
use Rattle.weights.specs.Number.{NumberOf}
use Rattle.words.specs.Sum.{IsSum}

-- a codeword with w ones
pub record OfWeight (plate : Plate) (w x : ℕ) : Type 0 where
  pub codeword : IsSum (rows_of plate) x
  pub weight : ones x ≡ w

-- c is the number of codewords of weight w: codewords are words of length n
abbrev pub NumberOfWeight : Plate → ℕ → ℕ → Type 0
NumberOfWeight plate w c = NumberOf (OfWeight plate w) (2 ^ plate.n) c

-- w is the smallest weight above zero of a codeword
pub record LeastWeight (plate : Plate) (w : ℕ) : Type 0 where
  pub word : ℕ
  pub has : OfWeight plate w word
  pub above : 0 < w
  pub smallest : (x v : ℕ) → OfWeight plate v x → 0 < v → w ≤ v

-- ---- the rooms and the refusals

-- how many numbers of working room are needed
abbrev pub working_need : Plate → ℕ
working_need plate = 130 * 2 ^ widest plate

-- what `working_need` replies: so many for a prepared plate, and 0 for any other
pub record TellsNeed (plate : Plate) (r : ℕ) : Type 0 where
  pub prepared_is : IsPrepared plate → r ≡ working_need plate
  pub other_is : (IsPrepared plate → ⊥) → r ≡ 0

-- 22: k is 64
abbrev pub whole_space : Plate → Refusal → Type 0
whole_space plate q = (plate.k ≡ 64) × (q ≡ WholeSpace)

-- 8: a lent room is too short
abbrev pub short_room : Plate → List ℕ → List ℕ → Refusal → Type 0
short_room plate counts working q = ((length counts < 65) ⊎ (length working < working_need plate)) × (q ≡ MetricRoom)

abbrev pub weight_conditions : Plate → List ℕ → List ℕ → List (Refusal → Type 0)
weight_conditions plate counts working = not_prepared plate ∷ whole_space plate ∷ short_room plate counts working ∷ []

-- ---- the reply

-- the first 65 counts are the numbers of codewords by weight, zero beyond n, and what stands behind them is as it was; the needed
-- working room is all zero, and the rest of it as it was
pub record Filled (plate : Plate) (counts working counts' working' : List ℕ) : Type 0 where
  pub size : length counts' ≡ length counts
  pub here : (w : ℕ) → w < 65 → NumberOfWeight plate w (get_or counts' w 0)
  pub beyond : (w : ℕ) → plate.n < w → w < 65 → get_or counts' w 0 ≡ 0
  pub behind : (i : ℕ) → 65 ≤ i → get_or counts' i 0 ≡ get_or counts i 0
  pub zeroed : working' ≡ replicate (working_need plate) 0 ++ drop (working_need plate) working

-- ---- the values of a reply that counted: whether it says that there is no weight above zero, and the smallest one where there is

abbrev pub says_none : Result (Option ℕ) Refusal → Bool
says_none (Ok (Some w)) = false
says_none (Ok None) = true
says_none (Err q) = true

abbrev pub least_said : Result (Option ℕ) Refusal → ℕ
least_said (Ok (Some w)) = w
least_said (Ok None) = 0
least_said (Err q) = 0

-- none is said where k is 0, and else the smallest weight above zero
abbrev pub LeastIs : Plate → Bool → ℕ → Type 0
LeastIs plate true w = plate.k ≡ 0
LeastIs plate false w = LeastWeight plate w

-- What counting replies: the first refusal in order, with both rooms unchanged; or the smallest weight above zero; or, where k is 0,
-- that there is none
abbrev pub CountsWeights : Plate → List ℕ → List ℕ → List ℕ → List ℕ → Result (Option ℕ) Refusal → Type 0
CountsWeights plate counts working counts' working' (Err q) =
    Refuses (weight_conditions plate counts working) q × (counts' ≡ counts) × (working' ≡ working)
CountsWeights plate counts working counts' working' (Ok (Some w)) =
    Passes (weight_conditions plate counts working) × LeastIs plate (says_none (Ok (Some w))) (least_said (Ok (Some w))) × Filled plate counts working counts' working'
CountsWeights plate counts working counts' working' (Ok None) =
    Passes (weight_conditions plate counts working) × LeastIs plate (says_none (Ok None)) (least_said (Ok None)) × Filled plate counts working counts' working'
