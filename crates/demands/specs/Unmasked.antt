-- What each call promised before plates had masks: of the matrix alone, of the codewords, and of the code's trellis. Encode and read back are in
-- coding/specs/Unmasked; a line that takes a plate speaks of no word. With a zero mask the promises are these (proofs/ZeroMasks).
use Rattle.decoding.specs.declared.Answer.{Answer}
use Rattle.asking.specs.declared.Reason.{Reason}
use Rattle.decoding.specs.declared.firmness.Flag.{Flag}
use Rattle.decoding.specs.declared.apart.Selection.{Selection}
use Rattle.decoding.specs.declared.apart.Measure.{Measure}
use Rattle.std.specs.Prelude.{pos, ℤ, drop, replicate, ◌++◌, List, [], ◌∷◌, ◌≡◌, ℕ, ◌≤◌, Result, Ok, Err, Option, Some, None}
use Rattle.asking.specs.Asking.{ReasonedIn}
use Rattle.decoding.specs.Apart.{BestMetricIn, BestSelectionIn, metric_conditions}
use Rattle.decoding.specs.Decode.{BestIn, Zeroed, decode_conditions, metric_need}
use Rattle.decoding.specs.Firmness.{FlagOf, firmness_conditions}
use Rattle.plates.specs.Code.{InCode}
use Rattle.plates.specs.declared.Kind.{Kind}
use Rattle.plates.specs.declared.Kind.TheVariants.{G}
use Rattle.plates.specs.declared.Plate.{Plate}
use Rattle.plates.specs.declared.Prepared.{Prepared}
use Rattle.plates.specs.declared.Refusal.{Refusal}
use Rattle.plates.specs.Prepare.{PreparesAs, RowOver, Wide, bad_length, rows_of, too_many_rows}
use Rattle.plates.specs.Refusals.{Passes, Refuses}
use Rattle.trellises.specs.Branching.{branch_conditions}
use Rattle.trellises.specs.Graph.{Graph, Has}
use Rattle.words.specs.Sum.{IsSum}

-- ---- prepare, the test of a plate, branch

-- refusals 1 to 4
abbrev pub unmasked_conditions : ℕ → Kind → List ℕ → List (Refusal → Type 0)
unmasked_conditions n kind rows = bad_length n ∷ too_many_rows rows ∷ RowOver n rows ∷ Wide (InCode kind n rows) n ∷ []

-- or the plate of the matrix; where it had no mask it now has a zero one
abbrev pub PreparesUnmasked : ℕ → Kind → List ℕ → Prepared → Type 0
PreparesUnmasked n kind rows r = PreparesAs (unmasked_conditions n kind rows) (InCode kind n rows) n 0 r.plate r.verdict

-- k is at most 64, and the plate is what preparing its own first k rows as G gives
abbrev pub IsPreparedUnmasked : Plate → Type 0
IsPreparedUnmasked plate = (plate.k ≤ 64) × PreparesUnmasked plate.n G (rows_of plate) (record { verdict = Ok tt; plate = plate })

-- the reply to a branch asked for, by a graph's branches
abbrev pub BranchesIn : Graph → Plate → ℕ → ℕ → ℕ → Result (Option ℕ) Refusal → Type 0
BranchesIn g plate depth state bit (Ok (Some next)) = Passes (branch_conditions plate depth state bit) × Has g depth state bit next
BranchesIn g plate depth state bit (Ok None) = Passes (branch_conditions plate depth state bit) × ((next : ℕ) → Has g depth state bit next → ⊥)
BranchesIn g plate depth state bit (Err q) = Refuses (branch_conditions plate depth state bit) q

-- ---- decode, metric, word, firmness, why not

abbrev pub DecodesCodeword : Plate → List ℤ → List ℤ → List ℕ → List ℤ → List ℕ → Result Answer Refusal → Type 0
DecodesCodeword plate samples metrics decisions metrics' decisions' (Err q) =
    Refuses (decode_conditions plate samples metrics decisions) q × (metrics' ≡ metrics) × (decisions' ≡ decisions)
DecodesCodeword plate samples metrics decisions metrics' decisions' (Ok a) =
    Passes (decode_conditions plate samples metrics decisions) × BestIn (IsSum (rows_of plate)) plate samples a
    × Zeroed plate metrics metrics' decisions decisions'

abbrev pub MeasuresCodeword : Plate → List ℤ → List ℤ → List ℤ → Result Measure Refusal → Type 0
MeasuresCodeword plate samples metrics metrics' (Err q) = Refuses (metric_conditions plate samples metrics) q × (metrics' ≡ metrics)
MeasuresCodeword plate samples metrics metrics' (Ok m) =
    Passes (metric_conditions plate samples metrics) × BestMetricIn (IsSum (rows_of plate)) plate samples m
    × (metrics' ≡ replicate (metric_need plate) (pos 0) ++ drop (metric_need plate) metrics)

abbrev pub ChoosesCodeword : Plate → List ℤ → List ℤ → List ℕ → List ℤ → List ℕ → Result Selection Refusal → Type 0
ChoosesCodeword plate samples metrics decisions metrics' decisions' (Err q) =
    Refuses (decode_conditions plate samples metrics decisions) q × (metrics' ≡ metrics) × (decisions' ≡ decisions)
ChoosesCodeword plate samples metrics decisions metrics' decisions' (Ok c) =
    Passes (decode_conditions plate samples metrics decisions) × BestSelectionIn (IsSum (rows_of plate)) plate samples c
    × Zeroed plate metrics metrics' decisions decisions'

abbrev pub JudgesCodeword : Plate → List ℤ → ℕ → List ℤ → List ℕ → List ℤ → List ℕ → Result Flag Refusal → Type 0
JudgesCodeword plate samples position metrics decisions metrics' decisions' (Err q) =
    Refuses (firmness_conditions plate samples position metrics decisions) q × (metrics' ≡ metrics) × (decisions' ≡ decisions)
JudgesCodeword plate samples position metrics decisions metrics' decisions' (Ok flag) =
    Passes (firmness_conditions plate samples position metrics decisions) × FlagOf (IsSum (rows_of plate)) samples position flag
    × Zeroed plate metrics metrics' decisions decisions'

abbrev pub AsksCodeword : Plate → List ℤ → ℕ → List ℤ → List ℕ → List ℤ → List ℕ → Result Reason Refusal → Type 0
AsksCodeword plate samples w metrics decisions metrics' decisions' (Err q) =
    Refuses (decode_conditions plate samples metrics decisions) q × (metrics' ≡ metrics) × (decisions' ≡ decisions)
AsksCodeword plate samples w metrics decisions metrics' decisions' (Ok reason) =
    Passes (decode_conditions plate samples metrics decisions) × ReasonedIn (IsSum (rows_of plate)) plate samples w reason
    × Zeroed plate metrics metrics' decisions decisions'
