-- How the replies of a batch cross: the counts into their cells, a refusal into the cell of the place.
use Rattle.std.proofs.Common.{Ok, Err}
use lib.IntN.{ℤ}
use lib.ListN.{length, set}
use mathlib.Core.List.{List}
use mathlib.Core.Logic.{inr}
use mathlib.Core.Path.{ap, ap₂, sym, ◌∙◌, ◌≡◌}
use Prim.Native.Nat.{ℕ}
use Rattle.decoding.specs.declared.Counts.{Counts}
use Rattle.exports.specs.Batches.{BatchCells, BatchShape, BatchesTo, Batching, CallsDecodeBlocks, batch_cells, batched, batched_as}
use Rattle.exports.specs.Calls.{Crossing, RefusedAt, done}
use Rattle.exports.specs.Crossing.{counts_put}
use Rattle.exports.specs.Flat.{plate_of}
use Rattle.plates.specs.declared.Refusal.{Refusal}

module _ (samples : List ℤ) (lent : BatchCells) (b : Batching) (plate : List ℕ) (shape : BatchShape (length plate) (length lent.counts) (length lent.at))
    (decodes : BatchesTo (plate_of plate) samples lent b) where
  -- a code and cells that the reply crosses as
  crossed : {out : Crossing BatchCells} → out ≡ batched lent b → CallsDecodeBlocks plate samples lent out.code out.cells
  crossed e = record { by_shape = inr (shape, record { reply = b; promised = decodes; crosses = e }) }

  -- the counts are in their cells
  pub batch-found : {counts : Counts} {counts' : List ℕ} → b.reply ≡ Ok counts → counts' ≡ counts_put lent.counts counts
      → CallsDecodeBlocks plate samples lent done (batch_cells b.metrics b.decisions b.words b.scores counts' (set lent.at 0 0))
  batch-found e laid =
      crossed
      (ap (λ (k : List ℕ). record { code = done; cells = batch_cells b.metrics b.decisions b.words b.scores k (set lent.at 0 0) }) laid
      ∙ sym (ap (batched_as lent b.words b.scores b.metrics b.decisions) e))

  -- the place is in its cell
  pub batch-refused : {q : Refusal} {r : ℕ} {at' : List ℕ} → b.reply ≡ Err q → RefusedAt q lent.at r at'
      → CallsDecodeBlocks plate samples lent r (batch_cells b.metrics b.decisions b.words b.scores lent.counts at')
  batch-refused e f =
      crossed
      (ap₂ (λ (x : ℕ) (p : List ℕ). record { code = x; cells = batch_cells b.metrics b.decisions b.words b.scores lent.counts p })
      f.number_is f.place_is ∙ sym (ap (batched_as lent b.words b.scores b.metrics b.decisions) e))
