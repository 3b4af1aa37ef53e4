-- How the replies of the metric call and of the word call cross: what was found into its cells, a refusal into the cell of the place.
use Rattle.std.proofs.Common.{Ok, Err}
use lib.IntN.{ℤ}
use lib.ListN.{length, set}
use mathlib.Core.List.{List}
use mathlib.Core.Logic.{inr}
use mathlib.Core.Path.{ap, ap₂, sym, ◌∙◌, ◌≡◌}
use Prim.Native.Nat.{ℕ}
use Rattle.decoding.specs.declared.apart.Measure.{Measure}
use Rattle.decoding.specs.declared.apart.Selection.{Selection}
use Rattle.exports.specs.Calls.{Crossing, RefusedAt, done}
use Rattle.exports.specs.Flat.{plate_of}
use Rattle.exports.specs.Parting.{CallsMetric, CallsWord, Choosing, ChoosesTo, MeasurePut, Measuring, MeasuresTo, MetricCells, PartShape, SelectionPut, WordCells, chosen, chosen_as, measured, measured_as, metric_cells, word_cells}
use Rattle.plates.specs.declared.Refusal.{Refusal}

module _ (samples : List ℤ) (lent : MetricCells) (m : Measuring) (words : List ℕ)
    (shape : PartShape (length words) (length lent.metric) (length lent.counts) (length lent.at))
    (measures : MeasuresTo (plate_of words) samples lent m) where
  -- a code and cells that the reply crosses as
  metric-crossed : {out : Crossing MetricCells} → out ≡ measured lent m → CallsMetric words samples lent out.code out.cells
  metric-crossed e = record { by_shape = inr (shape, record { reply = m; promised = measures; crosses = e }) }

  -- the measure is in its cells
  pub metric-found : {a : Measure} {metric' : List ℤ} {counts' : List ℕ} → m.reply ≡ Ok a → MeasurePut a lent.metric lent.counts metric' counts'
      → CallsMetric words samples lent done (metric_cells m.metrics metric' counts' (set lent.at 0 0))
  metric-found e laid =
      metric-crossed
      (ap₂ (λ (z : List ℤ) (k : List ℕ). record { code = done; cells = metric_cells m.metrics z k (set lent.at 0 0) }) laid.metric_is laid.counts_are
      ∙ sym (ap (measured_as lent m.metrics) e))

  -- the place is in its cell
  pub metric-refused : {q : Refusal} {r : ℕ} {at' : List ℕ} → m.reply ≡ Err q → RefusedAt q lent.at r at'
      → CallsMetric words samples lent r (metric_cells m.metrics lent.metric lent.counts at')
  metric-refused e f =
      metric-crossed
      (ap₂ (λ (x : ℕ) (p : List ℕ). record { code = x; cells = metric_cells m.metrics lent.metric lent.counts p }) f.number_is f.place_is
      ∙ sym (ap (measured_as lent m.metrics) e))

module _ (samples : List ℤ) (lent : WordCells) (c : Choosing) (words : List ℕ)
    (shape : PartShape (length words) (length lent.word) (length lent.counts) (length lent.at))
    (chooses : ChoosesTo (plate_of words) samples lent c) where
  -- a code and cells that the reply crosses as
  word-crossed : {out : Crossing WordCells} → out ≡ chosen lent c → CallsWord words samples lent out.code out.cells
  word-crossed e = record { by_shape = inr (shape, record { reply = c; promised = chooses; crosses = e }) }

  -- the selection is in its cells
  pub word-found : {a : Selection} {word' counts' : List ℕ} → c.reply ≡ Ok a → SelectionPut a lent.word lent.counts word' counts'
      → CallsWord words samples lent done (word_cells c.metrics c.decisions word' counts' (set lent.at 0 0))
  word-found e laid =
      word-crossed
      (ap₂ (λ (w k : List ℕ). record { code = done; cells = word_cells c.metrics c.decisions w k (set lent.at 0 0) }) laid.word_is laid.counts_are
      ∙ sym (ap (chosen_as lent c.metrics c.decisions) e))

  -- the place is in its cell
  pub word-refused : {q : Refusal} {r : ℕ} {at' : List ℕ} → c.reply ≡ Err q → RefusedAt q lent.at r at'
      → CallsWord words samples lent r (word_cells c.metrics c.decisions lent.word lent.counts at')
  word-refused e f =
      word-crossed
      (ap₂ (λ (x : ℕ) (p : List ℕ). record { code = x; cells = word_cells c.metrics c.decisions lent.word lent.counts p }) f.number_is f.place_is
      ∙ sym (ap (chosen_as lent c.metrics c.decisions) e))
