-- Why not this word: the four reasons, and what the call replies.
use Rattle.plates.specs.declared.Refusal.{Refusal}
use Rattle.std.specs.Prelude.{ℕ, ◌≤◌, ◌<◌, ◌-ℤ◌, pos, ℤ, ◌<ℤ◌, List, ◌≡◌, Result, Ok, Err}
use Rattle.words.specs.Word.{bit, Earlier}
use Rattle.plates.specs.declared.Plate.{Plate}
use Rattle.plates.specs.Prepare.{IsWord}
use Rattle.plates.specs.Refusals.{Refuses, Passes}
use Rattle.decoding.specs.declared.Answer.{Answer}
use Rattle.decoding.specs.Decode.{BestIn, Zeroed, decode_conditions}
use Rattle.decoding.specs.Metric.{metric_of}
use Rattle.asking.specs.declared.Reason.{Reason}
use Rattle.asking.specs.declared.Reason.TheVariants.{Chosen, NoCodeword, ScoresLess, TiesAndLoses}

-- ---- no codeword: here and below "codeword" is read as one of the words C, which for a plate are its words

-- some of the words C continues the word's beginning at p: it has the word's bits at the positions 0 to p
pub record Continued (C : ℕ → Type 0) (w p : ℕ) : Type 0 where
  pub by : ℕ
  pub codeword : C by
  pub same : (i : ℕ) → i ≤ p → bit by i ≡ bit w i

-- The word is no codeword, and p is the first position at which no codeword continues its beginning. Where every position below n is
-- continued, so that the word fails only by a one at n or beyond, p is n
pub record NoCodewordIn (C : ℕ → Type 0) (n w p : ℕ) : Type 0 where
  pub none : C w → ⊥
  pub within : p ≤ n
  pub sooner : (i : ℕ) → i < p → Continued C w i
  pub stops : p < n → Continued C w p → ⊥

-- ---- a codeword that is not the answer

-- it scores less than the answer, by the difference
pub record LessIn (C : ℕ → Type 0) (samples : List ℤ) (a : Answer) (w : ℕ) (difference : ℤ) : Type 0 where
  pub codeword : C w
  pub less : metric_of samples w <ℤ a.metric
  pub by : difference ≡ a.metric -ℤ metric_of samples w

-- it scores the same, and the answer is earlier, with 0 at p, the first position of difference
pub record LosesIn (C : ℕ → Type 0) (samples : List ℤ) (a : Answer) (w p : ℕ) : Type 0 where
  pub codeword : C w
  pub tie : metric_of samples w ≡ a.metric
  pub loses : Earlier a.word w
  pub at : p ≡ loses.place

-- ---- the values of a reason

-- which of the four it is
pub data Which : Type 0 where
  itself : Which
  outside : Which
  lower : Which
  later : Which

abbrev pub which : Reason → Which
which Chosen = itself
which (NoCodeword p) = outside
which (ScoresLess difference) = lower
which (TiesAndLoses p) = later

-- the position that it tells: of a word that is no codeword the first at which none continues it, of a tie the first of difference; else 0
abbrev pub position : Reason → ℕ
position Chosen = 0
position (NoCodeword p) = p
position (ScoresLess difference) = 0
position (TiesAndLoses p) = p

-- the difference that it tells: of a word that scores less; else 0
abbrev pub difference : Reason → ℤ
difference Chosen = pos 0
difference (NoCodeword p) = pos 0
difference (ScoresLess d) = d
difference (TiesAndLoses p) = pos 0

-- ---- the reply

-- what each of the four says of a word with its position or difference, where a is the answer of decoding
abbrev pub HoldsIn : (ℕ → Type 0) → ℕ → List ℤ → Answer → ℕ → Which → ℕ → ℤ → Type 0
HoldsIn C n samples a w itself p d = w ≡ a.word
HoldsIn C n samples a w outside p d = NoCodewordIn C n w p
HoldsIn C n samples a w lower p d = LessIn C samples a w d
HoldsIn C n samples a w later p d = LosesIn C samples a w p

-- the same of a reason, by its values
abbrev pub ExplainsIn : (ℕ → Type 0) → ℕ → List ℤ → Answer → ℕ → Reason → Type 0
ExplainsIn C n samples a w reason = HoldsIn C n samples a w (which reason) (position reason) (difference reason)

-- the reason holds against the answer of decoding
pub record ReasonedIn (C : ℕ → Type 0) (plate : Plate) (samples : List ℤ) (w : ℕ) (reason : Reason) : Type 0 where
  pub answer : Answer
  pub best : BestIn C plate samples answer
  pub explains : ExplainsIn C plate.n samples answer w reason

-- the same of the words of a plate
abbrev pub NoCodewordAt : Plate → ℕ → ℕ → Type 0
NoCodewordAt plate w p = NoCodewordIn (IsWord plate) plate.n w p

abbrev pub Less : Plate → List ℤ → Answer → ℕ → ℤ → Type 0
Less plate samples a w difference = LessIn (IsWord plate) samples a w difference

abbrev pub Loses : Plate → List ℤ → Answer → ℕ → ℕ → Type 0
Loses plate samples a w p = LosesIn (IsWord plate) samples a w p

abbrev pub Explains : Plate → List ℤ → Answer → ℕ → Reason → Type 0
Explains plate samples a w reason = ExplainsIn (IsWord plate) plate.n samples a w reason

abbrev pub Reasoned : Plate → List ℤ → ℕ → Reason → Type 0
Reasoned plate samples w reason = ReasonedIn (IsWord plate) plate samples w reason

-- What the call replies: the first refusal of the word call in order, 5 to 9, with both rooms unchanged, or the reason with the needed
-- room zeroed, as decoding leaves it
abbrev pub Asks : Plate → List ℤ → ℕ → List ℤ → List ℕ → List ℤ → List ℕ → Result Reason Refusal → Type 0
Asks plate samples w metrics decisions metrics' decisions' (Err q) =
    Refuses (decode_conditions plate samples metrics decisions) q × (metrics' ≡ metrics) × (decisions' ≡ decisions)
Asks plate samples w metrics decisions metrics' decisions' (Ok reason) =
    Passes (decode_conditions plate samples metrics decisions) × Reasoned plate samples w reason × Zeroed plate metrics metrics' decisions decisions'
