-- `decoding::batch::search_block` meets its contract, as `search` does.
use mathlib.Core.Path.{refl}
use native.Mathlib.Omega.{arith}
use mir.Facts.{to_z-of_z}
use mir.Syntax.{w32}
use Rattle.decoding.specs.Turning.{turned_by}
use Rattle.decoding.proofs.SearchEnds.{from_small, metric-there, rooms-turned, rooms-unforced, searched, swept-unforced, walk-fits}
use Rattle.decoding.proofs.batch.search_block.Goals as goal

pub sweep-at-requires : goal.sweep-at-requires
sweep-at-requires c =
    record {
      sizes_fit = c.requires.sizes_fit;
      ends_are = c.requires.ends_are;
      rooms_fit = rooms-unforced c.requires.rooms_fit;
    }

pub read_off-word-requires : goal.read_off-word-requires
read_off-word-requires c =
    walk-fits c.args.rows.now c.args.sizes (turned_by c.args.sizes.rest c.args.samples.now) c.args.metrics.now c.args.decisions.now c.requires.sizes_fit (rooms-turned c.args.sizes.rest c.requires.rooms_fit) _ c.requires.ends_are _ _ _ (swept-unforced c.requires.rooms_fit c.sweep-at.ensures) c.requires.words_nonzero

pub offset_bounds-metrics-at : goal.offset_bounds-metrics-at
offset_bounds-metrics-at c =
    record { fits = omega (arith, from_small c.args.rows.now c.args.sizes (turned_by c.args.sizes.rest c.args.samples.now) c.args.metrics.now c.args.decisions.now c.requires.sizes_fit (rooms-turned c.args.sizes.rest c.requires.rooms_fit) _ c.requires.ends_are _ _ _ (swept-unforced c.requires.rooms_fit c.sweep-at.ensures), c.requires.sizes_fit.half_small) }

pub slice_copy_out-result : goal.slice_copy_out-result
slice_copy_out-result c =
    metric-there c.args.rows.now c.args.sizes (turned_by c.args.sizes.rest c.args.samples.now) c.args.metrics.now c.args.decisions.now c.requires.sizes_fit (rooms-turned c.args.sizes.rest c.requires.rooms_fit) _ c.requires.ends_are _ _ _ (swept-unforced c.requires.rooms_fit c.sweep-at.ensures)

pub shape_of-metrics : goal.shape_of-metrics
shape_of-metrics c = c.sweep-at.ensures.kept.metrics_size

pub shape_of-decisions : goal.shape_of-decisions
shape_of-decisions c = c.sweep-at.ensures.kept.decisions_size

pub returns : goal.returns
returns c =
    searched c.args.rows.now c.args.sizes c.args.samples.now c.args.metrics.now c.args.decisions.now c.requires.sizes_fit c.requires.rooms_fit _ c.requires.ends_are _ _ _ (swept-unforced c.requires.rooms_fit c.sweep-at.ensures) _ c.read_off-word.ensures (to_z-of_z {w = w32} (record { sfits = c.result-1.given })) refl
