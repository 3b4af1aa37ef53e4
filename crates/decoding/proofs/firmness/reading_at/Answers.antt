-- `decoding::firmness::reading_at` meets its contract, by the laws of proofs/ForcedReading.
use mathlib.Core.Path.{◌∙◌}
use Rattle.decoding.proofs.ForcedReading.{fixed-read, margin-fits, open-read}
use Rattle.decoding.proofs.SweepEnds.{rooms-kept}
use Rattle.decoding.proofs.Undecided.{undecided-fits, undecided-rooms}
use Rattle.decoding.proofs.firmness.reading_at.Goals as goal

pub returns-then-not-has_one : goal.returns-then-not-has_one
returns-then-not-has_one c =
    fixed-read c.args.rows.now c.args.sizes c.args.samples.now c.args.metrics.now c.args.decisions.now c.args.position
    (c.has_one.ensures.no_is c.if-not-has_one.true) c.bit_at.result c.bit_at.ensures

pub best_with-zero-requires : goal.best_with-zero-requires
best_with-zero-requires c =
    record {
      sizes_fit = undecided-fits c.requires.sizes_fit;
      ends_are = c.ending_rows-ends.ensures;
      rooms_fit = undecided-rooms c.requires.rooms_fit;
      position_lt_n = c.requires.position_lt_n;
    }

pub best_with-one-requires : goal.best_with-one-requires
best_with-one-requires c =
    record {
      sizes_fit = undecided-fits c.requires.sizes_fit;
      ends_are = c.ending_rows-ends.ensures;
      rooms_fit = rooms-kept c.best_with-zero.ensures.kept (undecided-rooms c.requires.rooms_fit);
      position_lt_n = c.requires.position_lt_n;
    }

pub overflow_sub-result : goal.overflow_sub-result
overflow_sub-result c =
    margin-fits c.best_with-zero.result c.best_with-one.result c.best_with-zero.ensures.small c.best_with-one.ensures.small

pub shape_of-metrics : goal.shape_of-metrics
shape_of-metrics c = c.best_with-one.ensures.kept.metrics_size ∙ c.best_with-zero.ensures.kept.metrics_size

pub shape_of-decisions : goal.shape_of-decisions
shape_of-decisions c = c.best_with-one.ensures.kept.decisions_size ∙ c.best_with-zero.ensures.kept.decisions_size

pub returns : goal.returns
returns c =
    open-read c.args.rows.now c.args.sizes c.args.samples.now c.args.metrics.now c.args.decisions.now c.args.position (c.has_one.ensures.yes_is c.if-not-has_one.false) _ _ _ _ _ _ c.best_with-zero.ensures c.best_with-one.ensures
