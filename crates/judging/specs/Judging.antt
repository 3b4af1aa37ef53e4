-- What judging a listing against a plate replies, and what it leaves in the lent room.
use Rattle.sheets.specs.declared.listed.Branch.{Branch}
use Rattle.std.specs.Prelude.{ℕ, suc, ◌*◌, ◌^◌, ◌<◌, length, drop, replicate, Bool, true, false, List, [], ◌∷◌, ◌++◌, ◌↔◌, ◌≡◌, Option, Result, Ok, Err}
use Rattle.plates.specs.declared.Plate.{Plate}
use Rattle.plates.specs.declared.Refusal.{Refusal}
use Rattle.plates.specs.declared.Refusal.TheVariants.{BranchFault, BranchTwice, MetricRoom, TooManyLines}
use Rattle.plates.specs.Prepare.{IsWord, not_prepared, rows_of}
use Rattle.plates.specs.Refusals.{Passes, Refuses}
use Rattle.sheets.specs.Listed.{entries}
use Rattle.trellises.specs.Graph.{Graph, Path, Spells}
use Rattle.words.specs.Word.{Earlier}
use Rattle.judging.specs.Listing.{branches_of, faulty_at, listed_graph, repeats_at}
use Rattle.judging.specs.Surplus.{SurplusIn}
use Rattle.judging.specs.declared.Judged.{Judged}
use Rattle.judging.specs.declared.Judgement.{Judgement}
use Rattle.judging.specs.declared.Judged.TheVariants.{Right, SpelledWrongly, NotSpelled}

-- ---- the refusals

-- 28: more than 1,024 lines
abbrev pub too_many_lines : List (Option Branch) → Refusal → Type 0
too_many_lines es q = (1024 < length es) × (q ≡ TooManyLines)

-- the first line that a test finds, from 0
pub record FirstLine (es : List (Option Branch)) (test : ℕ → Bool) (i : ℕ) : Type 0 where
  pub there : i < length es
  pub found : test i ≡ true
  pub first : (j : ℕ) → j < i → test j ≡ false

-- 26: a line is bad or out of depth order; the place is the first such, from 1
pub record FaultyLine (es : List (Option Branch)) (q : Refusal) : Type 0 where
  pub line : ℕ
  pub at : FirstLine es (faulty_at es) line
  pub is : q ≡ BranchFault (suc line)

-- 27: two branches with one bit leave one state of one depth; the place is the first line that repeats, from 1
pub record RepeatedLine (es : List (Option Branch)) (q : Refusal) : Type 0 where
  pub line : ℕ
  pub at : FirstLine es (repeats_at es) line
  pub is : q ≡ BranchTwice (suc line)

-- four numbers a line
abbrev pub room_need : List (Option Branch) → ℕ
room_need es = 4 * length es

-- 8: the room is too short
abbrev pub short_room : List (Option Branch) → List ℕ → Refusal → Type 0
short_room es room q = (length room < room_need es) × (q ≡ MetricRoom)

abbrev pub judging_conditions : Plate → List (Option Branch) → List ℕ → List (Refusal → Type 0)
judging_conditions plate es room = not_prepared plate ∷ too_many_lines es ∷ FaultyLine es ∷ RepeatedLine es ∷ short_room es room ∷ []

-- ---- the judgement

-- the graph spells the same words as C as far as the words before w go
pub record AgreesBefore (g : Graph) (n : ℕ) (C : ℕ → Type 0) (w : ℕ) : Type 0 where
  pub below : w < 2 ^ n
  pub earlier : (v : ℕ) → v < 2 ^ n → Earlier v w → C v ↔ Path g n v

-- w is the earliest word that is spelled wrongly or not spelled, and is spelled
pub record Wrongly (g : Graph) (n : ℕ) (C : ℕ → Type 0) (w : ℕ) : Type 0 where
  pub before : AgreesBefore g n C w
  pub spelled : Path g n w
  pub no_word : C w → ⊥

-- w is the earliest word that is spelled wrongly or not spelled, and is not spelled
pub record Missing (g : Graph) (n : ℕ) (C : ℕ → Type 0) (w : ℕ) : Type 0 where
  pub before : AgreesBefore g n C w
  pub word : C w
  pub not_spelled : Path g n w → ⊥

-- the listing as a graph, start and end being those of the plate's length
abbrev pub graph_against : Plate → List (Option Branch) → Graph
graph_against plate es = listed_graph plate.n (branches_of es)

-- the needed room is all zero, and the rest as it was
abbrev pub Zeroed : ℕ → List ℕ → List ℕ → Type 0
Zeroed need room room' = room' ≡ replicate need 0 ++ drop need room

-- ---- the values of a verdict that judged

-- which of the three it is
pub data Finding : Type 0 where
  spells_all : Finding
  spells_more : Finding
  spells_less : Finding

-- the finding of a verdict with the word that it shows, where the words are C
abbrev pub Finds : Graph → ℕ → (ℕ → Type 0) → Finding → ℕ → Type 0
Finds g n C spells_all w = Spells g n C
Finds g n C spells_more w = Wrongly g n C w
Finds g n C spells_less w = Missing g n C w

-- the word that a verdict shows; else 0
abbrev pub shown : Judged → ℕ
shown Right = 0
shown (SpelledWrongly w) = w
shown (NotSpelled w) = w

-- right exactly if the full paths spell exactly the plate's words; otherwise the earliest word that tells
abbrev pub JudgesBy : Plate → List (Option Branch) → List ℕ → List ℕ → Result Judged Refusal → Type 0
JudgesBy plate es room room' (Err q) = Refuses (judging_conditions plate es room) q × (room' ≡ room)
JudgesBy plate es room room' (Ok Right) =
    Passes (judging_conditions plate es room) × Finds (graph_against plate es) plate.n (IsWord plate) spells_all (shown Right) × Zeroed (room_need es) room room'
JudgesBy plate es room room' (Ok (SpelledWrongly w)) =
    Passes (judging_conditions plate es room) × Finds (graph_against plate es) plate.n (IsWord plate) spells_more (shown (SpelledWrongly w))
    × Zeroed (room_need es) room room'
JudgesBy plate es room room' (Ok (NotSpelled w)) =
    Passes (judging_conditions plate es room) × Finds (graph_against plate es) plate.n (IsWord plate) spells_less (shown (NotSpelled w))
    × Zeroed (room_need es) room room'

-- What judging replies: the first refusal in order, with the room unchanged; or the judgement of the listing's full paths, and on a right
-- listing its surplus
pub record Judges (plate : Plate) (text room : List ℕ) (room' : List ℕ) (r : Judgement) : Type 0 where
  pub reply : JudgesBy plate (entries plate.n text) room room' r.verdict
  pub surplus : SurplusIn (graph_against plate (entries plate.n text)) plate.n (rows_of plate) r.verdict r.states r.branches
