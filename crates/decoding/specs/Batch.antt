-- Many blocks of one plate in one call: what is replied, and what is left in the words and metrics lent and in the working rooms.
use Rattle.std.specs.Prelude.{ℕ, ◌*◌, ◌<◌, ℤ, pos, drop, get_or, length, take, List, [], ◌∷◌, ◌≡◌, Result, Ok, Err}
use Rattle.plates.specs.declared.Plate.{Plate}
use Rattle.plates.specs.declared.Refusal.{Refusal}
use Rattle.plates.specs.declared.Refusal.TheVariants.{SampleCount}
use Rattle.plates.specs.Prepare.{not_prepared}
use Rattle.plates.specs.Refusals.{Refuses, Passes}
use Rattle.decoding.specs.declared.Answer.{Answer}
use Rattle.decoding.specs.declared.Counts.{Counts}
use Rattle.decoding.specs.Decode.{Best, SampleOver, Zeroed, decision_room, metric_room}

-- ---- refusals 5 to 9

-- block b of a run of samples, n of them a block
abbrev pub block_at : ℕ → List ℤ → ℕ → List ℤ
block_at n samples b = take n (drop (b * n) samples)

-- as many blocks of samples as words are lent, and as many metrics lent
pub record Blocks (n : ℕ) (samples : List ℤ) (words : List ℕ) (scores : List ℤ) : Type 0 where
  pub samples_are : length samples ≡ length words * n
  pub scores_are : length scores ≡ length words

-- 6: they are not
abbrev pub block_count : Plate → List ℤ → List ℕ → List ℤ → Refusal → Type 0
block_count plate samples words scores q = (Blocks plate.n samples words scores → ⊥) × (q ≡ SampleCount)

-- 7 names the place in the run
abbrev pub blocks_conditions : Plate → List ℤ → List ℕ → List ℤ → List ℤ → List ℕ → List (Refusal → Type 0)
blocks_conditions plate samples words scores metrics decisions =
    not_prepared plate ∷ block_count plate samples words scores ∷ SampleOver samples ∷ metric_room plate metrics ∷ decision_room plate decisions ∷ []

-- ---- the reply

-- the answer of block b: its word and metric among those lent, and the counts replied
abbrev pub answer_at : List ℕ → List ℤ → Counts → ℕ → Answer
answer_at words scores counts b = record { word = get_or words b 0; metric = get_or scores b (pos 0); counts = counts }

-- so many answers, each the best of its block; the counts are 0 where there is no block
pub record EachBest (plate : Plate) (samples : List ℤ) (count : ℕ) (words : List ℕ) (scores : List ℤ) (counts : Counts) : Type 0 where
  pub words_size : length words ≡ count
  pub scores_size : length scores ≡ count
  pub each : (b : ℕ) → b < count → Best plate (block_at plate.n samples b) (answer_at words scores counts b)
  pub none : count ≡ 0 → counts ≡ record { additions = 0; comparisons = 0 }

-- What a batch replies: the first refusal in order with all that is lent unchanged, or every answer with the needed room zeroed
abbrev pub DecodesBlocks : Plate → List ℤ → List ℕ → List ℤ → List ℤ → List ℕ → List ℕ → List ℤ → List ℤ → List ℕ → Result Counts Refusal → Type 0
DecodesBlocks plate samples words scores metrics decisions words' scores' metrics' decisions' (Err q) =
    Refuses (blocks_conditions plate samples words scores metrics decisions) q
    × (words' ≡ words) × (scores' ≡ scores) × (metrics' ≡ metrics) × (decisions' ≡ decisions)
DecodesBlocks plate samples words scores metrics decisions words' scores' metrics' decisions' (Ok counts) =
    Passes (blocks_conditions plate samples words scores metrics decisions)
    × EachBest plate samples (length words) words' scores' counts × Zeroed plate metrics metrics' decisions decisions'
