-- `decoding::search::search_metric` meets its contract.
use mathlib.Core.List.{[]}
use mathlib.Core.Path.{refl}
use mir.Facts.{to_z-of_z}
use mir.Syntax.{w32}
use native.Mathlib.Omega.{arith}
use Rattle.decoding.specs.Sweeping.{undecided}
use Rattle.decoding.specs.Turning.{turned_by}
use Rattle.decoding.proofs.SearchEnds.{from_small, metric-there, rooms-turned, rooms-unforced, swept-unforced}
use Rattle.decoding.proofs.Undecided.{metric-searched, undecided-fits}
use Rattle.decoding.proofs.search.search_metric.Goals as goal

pub ending_rows-ends-requires : goal.ending_rows-ends-requires
ending_rows-ends-requires c = c.requires.sizes_fit.plate

pub sweep-at-requires : goal.sweep-at-requires
sweep-at-requires c =
    record {
      sizes_fit = undecided-fits c.requires.sizes_fit;
      ends_are = c.ending_rows-ends.ensures;
      rooms_fit = rooms-unforced c.requires.rooms_fit;
    }

pub offset_bounds-metrics-at : goal.offset_bounds-metrics-at
offset_bounds-metrics-at c =
    record { fits = omega (arith, from_small c.args.rows.now (undecided c.args.sizes) (turned_by c.args.sizes.rest c.args.samples.now) c.args.metrics.now [] (undecided-fits c.requires.sizes_fit) (rooms-turned c.args.sizes.rest c.requires.rooms_fit) _ c.ending_rows-ends.ensures _ _ _ (swept-unforced c.requires.rooms_fit c.sweep-at.ensures), c.requires.sizes_fit.half_small) }

pub slice_copy_out-result : goal.slice_copy_out-result
slice_copy_out-result c =
    metric-there c.args.rows.now (undecided c.args.sizes) (turned_by c.args.sizes.rest c.args.samples.now) c.args.metrics.now [] (undecided-fits c.requires.sizes_fit) (rooms-turned c.args.sizes.rest c.requires.rooms_fit) _ c.ending_rows-ends.ensures _ _ _ (swept-unforced c.requires.rooms_fit c.sweep-at.ensures)

pub shape_of-metrics : goal.shape_of-metrics
shape_of-metrics c = c.sweep-at.ensures.kept.metrics_size

pub returns : goal.returns
returns c =
    metric-searched c.args.rows.now c.args.sizes c.args.samples.now c.args.metrics.now c.requires.sizes_fit c.requires.rooms_fit _ c.ending_rows-ends.ensures _ _ _ (swept-unforced c.requires.rooms_fit c.sweep-at.ensures) _ (to_z-of_z {w = w32} (record { sfits = c.result-1.given })) refl
