-- How the metric without the word and the word without its metric cross the interface: the cells, and the promises of the two calls.
use Rattle.plates.specs.declared.Refusal.{Refusal}
use Rattle.std.specs.Prelude.{ℤ, length, set, Bool, false, true, List, ◌≡◌, ℕ, ◌≤◌, Result, Ok, Err}
use Rattle.decoding.specs.Apart.{Chooses, Measures}
use Rattle.decoding.specs.declared.apart.Measure.{Measure}
use Rattle.decoding.specs.declared.apart.Selection.{Selection}
use Rattle.exports.specs.Calls.{Calls, Crossing, done}
use Rattle.exports.specs.Crossing.{counts_put}
use Rattle.exports.specs.Flat.{plate_of}
use Rattle.plates.specs.declared.Plate.{Plate}
use Rattle.plates.specs.Refusals.{number, place}

-- ---- what both have in common

-- how long the plate's run, the cell for the metric or the word, those of the counts and that of the place must be
abbrev pub PartShape : ℕ → ℕ → ℕ → ℕ → Type 0
PartShape plate best counts at = (132 ≤ plate) × (1 ≤ best) × (2 ≤ counts) × (1 ≤ at)

-- what the test of these lengths replies
pub record PartTested (plate best counts at : ℕ) (r : Bool) : Type 0 where
  pub yes_is : r ≡ true → PartShape plate best counts at
  pub no_is : r ≡ false → PartShape plate best counts at → ⊥

-- ---- the metric

-- the cells that are lent to the metric call
pub record MetricCells : Type 0 where
  pub metrics : List ℤ
  pub metric : List ℤ
  pub counts : List ℕ
  pub at : List ℕ

-- the same, one by one
abbrev pub metric_cells : List ℤ → List ℤ → List ℕ → List ℕ → MetricCells
metric_cells metrics metric counts at = record { metrics = metrics; metric = metric; counts = counts; at = at }

-- what the metric call replies, with the room as it leaves it
pub record Measuring : Type 0 where
  pub reply : Result Measure Refusal
  pub metrics : List ℤ

-- a measure stands in its cells
pub record MeasurePut (m : Measure) (metric : List ℤ) (counts : List ℕ) (metric' : List ℤ) (counts' : List ℕ) : Type 0 where
  pub metric_is : metric' ≡ set metric 0 m.metric
  pub counts_are : counts' ≡ counts_put counts m.counts

-- the metric, the two counts, and place 0; or the place of the refusal alone
abbrev pub measured_as : MetricCells → List ℤ → Result Measure Refusal → Crossing MetricCells
measured_as lent metrics (Ok m) =
    record { code = done; cells = metric_cells metrics (set lent.metric 0 m.metric) (counts_put lent.counts m.counts) (set lent.at 0 0) }
measured_as lent metrics (Err q) = record { code = number q; cells = metric_cells metrics lent.metric lent.counts (set lent.at 0 (place q)) }

abbrev pub measured : MetricCells → Measuring → Crossing MetricCells
measured lent m = measured_as lent m.metrics m.reply

-- what the metric call promises of its reply and its room
abbrev pub MeasuresTo : Plate → List ℤ → MetricCells → Measuring → Type 0
MeasuresTo plate samples lent m = Measures plate samples lent.metrics m.metrics m.reply

-- fixed are the plate's run, the cells for the metric and the counts, and that of the place
abbrev pub CallsMetric : List ℕ → List ℤ → MetricCells → ℕ → MetricCells → Type 0
CallsMetric words samples lent r lent' =
    Calls (PartShape (length words) (length lent.metric) (length lent.counts) (length lent.at)) lent
    (MeasuresTo (plate_of words) samples lent) (measured lent) (record { code = r; cells = lent' })

-- ---- the word

-- the cells that are lent to the word call
pub record WordCells : Type 0 where
  pub metrics : List ℤ
  pub decisions : List ℕ
  pub word : List ℕ
  pub counts : List ℕ
  pub at : List ℕ

-- the same, one by one
abbrev pub word_cells : List ℤ → List ℕ → List ℕ → List ℕ → List ℕ → WordCells
word_cells metrics decisions word counts at = record { metrics = metrics; decisions = decisions; word = word; counts = counts; at = at }

-- what the word call replies, with the two rooms as it leaves them
pub record Choosing : Type 0 where
  pub reply : Result Selection Refusal
  pub metrics : List ℤ
  pub decisions : List ℕ

-- a selection stands in its cells
pub record SelectionPut (c : Selection) (word counts word' counts' : List ℕ) : Type 0 where
  pub word_is : word' ≡ set word 0 c.word
  pub counts_are : counts' ≡ counts_put counts c.counts

-- the word, the two counts, and place 0; or the place of the refusal alone
abbrev pub chosen_as : WordCells → List ℤ → List ℕ → Result Selection Refusal → Crossing WordCells
chosen_as lent metrics decisions (Ok c) =
    record { code = done; cells = word_cells metrics decisions (set lent.word 0 c.word) (counts_put lent.counts c.counts) (set lent.at 0 0) }
chosen_as lent metrics decisions (Err q) =
    record { code = number q; cells = word_cells metrics decisions lent.word lent.counts (set lent.at 0 (place q)) }

abbrev pub chosen : WordCells → Choosing → Crossing WordCells
chosen lent c = chosen_as lent c.metrics c.decisions c.reply

-- what the word call promises of its reply and its rooms
abbrev pub ChoosesTo : Plate → List ℤ → WordCells → Choosing → Type 0
ChoosesTo plate samples lent c = Chooses plate samples lent.metrics lent.decisions c.metrics c.decisions c.reply

-- fixed are the plate's run, the cells for the word and the counts, and that of the place
abbrev pub CallsWord : List ℕ → List ℤ → WordCells → ℕ → WordCells → Type 0
CallsWord words samples lent r lent' =
    Calls (PartShape (length words) (length lent.word) (length lent.counts) (length lent.at)) lent
    (ChoosesTo (plate_of words) samples lent) (chosen lent) (record { code = r; cells = lent' })
