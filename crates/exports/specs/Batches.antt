-- How many blocks decoded in one call cross the interface: the cells, and the promise of the call.
use Rattle.plates.specs.declared.Refusal.{Refusal}
use Rattle.decoding.specs.declared.Counts.{Counts}
use Rattle.std.specs.Prelude.{ℤ, length, set, Bool, false, true, List, ◌≡◌, ℕ, ◌≤◌, Result, Ok, Err}
use Rattle.decoding.specs.Batch.{DecodesBlocks}
use Rattle.exports.specs.Calls.{Calls, Crossing, done}
use Rattle.exports.specs.Crossing.{counts_put}
use Rattle.exports.specs.Flat.{plate_of}
use Rattle.plates.specs.declared.Plate.{Plate}
use Rattle.plates.specs.Refusals.{number, place}

-- the cells that are lent to the call
pub record BatchCells : Type 0 where
  pub metrics : List ℤ
  pub decisions : List ℕ
  pub words : List ℕ
  pub scores : List ℤ
  pub counts : List ℕ
  pub at : List ℕ

-- the same, one by one
abbrev pub batch_cells : List ℤ → List ℕ → List ℕ → List ℤ → List ℕ → List ℕ → BatchCells
batch_cells metrics decisions words scores counts at =
    record { metrics = metrics; decisions = decisions; words = words; scores = scores; counts = counts; at = at }

-- what the call below replies, with what is lent to it as it leaves it
pub record Batching : Type 0 where
  pub reply : Result Counts Refusal
  pub words : List ℕ
  pub scores : List ℤ
  pub metrics : List ℤ
  pub decisions : List ℕ

-- the two counts and place 0; or the place of the refusal alone
abbrev pub batched_as : BatchCells → List ℕ → List ℤ → List ℤ → List ℕ → Result Counts Refusal → Crossing BatchCells
batched_as lent words scores metrics decisions (Ok counts) =
    record { code = done; cells = batch_cells metrics decisions words scores (counts_put lent.counts counts) (set lent.at 0 0) }
batched_as lent words scores metrics decisions (Err q) =
    record { code = number q; cells = batch_cells metrics decisions words scores lent.counts (set lent.at 0 (place q)) }

abbrev pub batched : BatchCells → Batching → Crossing BatchCells
batched lent b = batched_as lent b.words b.scores b.metrics b.decisions b.reply

-- how long the plate's run, the cells of the counts and that of the place must be
abbrev pub BatchShape : ℕ → ℕ → ℕ → Type 0
BatchShape plate counts at = (132 ≤ plate) × (2 ≤ counts) × (1 ≤ at)

-- what the test of these lengths replies
pub record BatchTested (plate counts at : ℕ) (r : Bool) : Type 0 where
  pub yes_is : r ≡ true → BatchShape plate counts at
  pub no_is : r ≡ false → BatchShape plate counts at → ⊥

-- what the call below promises of its reply and of what is lent to it
abbrev pub BatchesTo : Plate → List ℤ → BatchCells → Batching → Type 0
BatchesTo plate samples lent b =
    DecodesBlocks plate samples lent.words lent.scores lent.metrics lent.decisions b.words b.scores b.metrics b.decisions b.reply

-- fixed are the plate's run, the cells for the counts, and that of the place
abbrev pub CallsDecodeBlocks : List ℕ → List ℤ → BatchCells → ℕ → BatchCells → Type 0
CallsDecodeBlocks plate samples lent r lent' =
    Calls (BatchShape (length plate) (length lent.counts) (length lent.at)) lent
    (BatchesTo (plate_of plate) samples lent) (batched lent) (record { code = r; cells = lent' })
