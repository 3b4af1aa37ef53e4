-- `decoding::batch::put_blocks` meets its contract. The loop's invariant: the first blocks are stored.
use borrow.Author.Rules.{rules}
use lib.ListN.{length}
use mathlib.Core.Path.{◌≡◌}
use native.Mathlib.Omega.{arith}
use Rattle.decoding.proofs.Batched.{all-put, block-fits, block_inside, blocks-on, blocks_start}
use Rattle.decoding.proofs.batch.put_blocks.Goals as goal

pub ending_rows-ends-requires : goal.ending_rows-ends-requires
ending_rows-ends-requires c = c.requires.sizes_fit.plate

pub loop-at-init : goal.loop-at-init
loop-at-init c = (omega arith, blocks_start _ _ _ _ _ _ _)

pub overflow_mul-begin : goal.overflow_mul-begin
overflow_mul-begin c = let inside = block_inside c.requires.blocks_fit c.loop-at.invariant.1 c.loop-at-test.true in
    search rules

pub overflow_add-end : goal.overflow_add-end
overflow_add-end c = let inside = block_inside c.requires.blocks_fit c.loop-at.invariant.1 c.loop-at-test.true in
    search rules

pub offset_bounds-samples-begin : goal.offset_bounds-samples-begin
offset_bounds-samples-begin c = let inside = block_inside c.requires.blocks_fit c.loop-at.invariant.1 c.loop-at-test.true in
    search rules

pub put_block-counts-requires : goal.put_block-counts-requires
put_block-counts-requires c =
    record {
      sizes_fit = c.requires.sizes_fit;
      ends_are = c.ending_rows-ends.ensures;
      block_fits = block-fits c.requires.blocks_fit c.loop-at.invariant.1 c.loop-at-test.true;
    }

pub loop-at-preserved : goal.loop-at-preserved
loop-at-preserved c =
    let i = c.loop-at.invariant.1 in
    let h = c.loop-at-test.true in
    (omega arith, blocks-on c.requires.blocks_fit i h c.put_block-counts.ensures)

pub shape_of-found : goal.shape_of-found
shape_of-found c = c.loop-at.invariant.1.words_size

pub shape_of-scores : goal.shape_of-scores
shape_of-scores c = c.loop-at.invariant.1.scores_size

pub shape_of-metrics : goal.shape_of-metrics
shape_of-metrics c = c.loop-at.invariant.1.kept.metrics_size

pub shape_of-decisions : goal.shape_of-decisions
shape_of-decisions c = c.loop-at.invariant.1.kept.decisions_size

pub returns : goal.returns
returns c =
    let l = c.loop-at in
    let e : l.at ≡ length c.args.found.now = omega (arith, c.loop-at-test.false, l.invariant.0) in
    all-put e l.invariant.1
