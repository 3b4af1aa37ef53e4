-- `decoding::batch::blocks_prepared` meets its contract: each refusal in its order, and the answers.
use borrow.Author.Rules.{rules}
use lib.IntN.{ℤ}
use lib.ListN.{length}
use mathlib.Core.List.{List}
use mathlib.Core.Path.{◌≡◌}
use native.Mathlib.Omega.{arith}
use Prim.Native.Nat.{ℕ, ◌*◌}
use Rattle.plates.proofs.SoundIsPrepared.{sound}
use Rattle.plates.specs.Prepare.{lent}
use Rattle.decoding.specs.Batch.{Blocks}
use Rattle.decoding.proofs.BatchCalls.{batched, blocks-fit, refused-6, refused-7, refused-8, refused-9}
use Rattle.decoding.proofs.PlateSizes.{decisions-fit, metrics-fit}
use Rattle.decoding.proofs.batch.blocks_prepared.Goals as goal

-- the samples are whole blocks
module _ {n : ℕ} {samples : List ℤ} {found : List ℕ} {scores : List ℤ} where
  blocks : (length samples ≡ length found * n) × (length scores ≡ length found) → Blocks n samples found scores
  blocks e = record { samples_are = e.0; scores_are = e.1 }

pub are_blocks-requires : goal.are_blocks-requires
are_blocks-requires c = omega (arith, (sound c.requires).positive)

pub returns-then-not-are_blocks : goal.returns-then-not-are_blocks
returns-then-not-are_blocks c =
    let plate = lent c.args.plate in
    refused-6 plate c.args.samples.now c.args.found.now c.args.scores.now c.args.metrics.now c.args.decisions.now c.requires
    (λ b. c.are_blocks.ensures.no_is c.if-not-are_blocks.true b.samples_are b.scores_are)

pub returns-in-Some : goal.returns-in-Some
returns-in-Some c =
    let plate = lent c.args.plate in
    refused-7 plate c.args.samples.now c.args.found.now c.args.scores.now c.args.metrics.now c.args.decisions.now c.requires
    (blocks (c.are_blocks.ensures.yes_is c.if-not-are_blocks.false)) c.in-Some.ensures

pub overflow_add-metric_need : goal.overflow_add-metric_need
overflow_add-metric_need c =
    let plate = lent c.args.plate in
    record { fits = metrics-fit plate c.requires c.sizes_of-sizes.ensures }

pub overflow_mul-decision_need : goal.overflow_mul-decision_need
overflow_mul-decision_need c =
    let plate = lent c.args.plate in
    record { fits = decisions-fit plate c.requires c.sizes_of-sizes.ensures }

pub returns-then-metrics-metric_need : goal.returns-then-metrics-metric_need
returns-then-metrics-metric_need c =
    let plate = lent c.args.plate in
    refused-8 plate c.args.samples.now c.args.found.now c.args.scores.now c.args.metrics.now c.args.decisions.now c.requires
    (blocks (c.are_blocks.ensures.yes_is c.if-not-are_blocks.false)) c.in_default.ensures c.sizes_of-sizes.ensures c.if-metrics-metric_need.true

pub returns-then-decisions-decision_need : goal.returns-then-decisions-decision_need
returns-then-decisions-decision_need c =
    let plate = lent c.args.plate in
    refused-9 plate c.args.samples.now c.args.found.now c.args.scores.now c.args.metrics.now c.args.decisions.now c.requires
    (blocks (c.are_blocks.ensures.yes_is c.if-not-are_blocks.false)) c.in_default.ensures c.sizes_of-sizes.ensures
    (omega (arith, c.if-metrics-metric_need.false)) c.if-decisions-decision_need.true

pub put_blocks-counts-requires : goal.put_blocks-counts-requires
put_blocks-counts-requires c =
    let plate = lent c.args.plate in
    let both = blocks-fit plate c.args.samples.now c.args.found.now c.args.scores.now c.args.metrics.now c.args.decisions.now c.requires
    (blocks (c.are_blocks.ensures.yes_is c.if-not-are_blocks.false)) c.in_default.ensures c.sizes_of-sizes.ensures
    (omega (arith, c.if-metrics-metric_need.false)) (omega (arith, c.if-decisions-decision_need.false)) in
    record {
      sizes_fit = both.0;
      blocks_fit = both.1;
    }

pub shape_of-found : goal.shape_of-found
shape_of-found c = c.put_blocks-counts.ensures.words_size

pub shape_of-scores : goal.shape_of-scores
shape_of-scores c = c.put_blocks-counts.ensures.scores_size

pub returns : goal.returns
returns c =
    let plate = lent c.args.plate in
    batched plate c.args.samples.now c.args.found.now c.args.scores.now c.args.metrics.now c.args.decisions.now c.requires
    (blocks (c.are_blocks.ensures.yes_is c.if-not-are_blocks.false)) c.in_default.ensures c.sizes_of-sizes.ensures
    (omega (arith, c.if-metrics-metric_need.false)) (omega (arith, c.if-decisions-decision_need.false))
    c.put_blocks-counts.ensures _ (search rules) _ (search rules)
