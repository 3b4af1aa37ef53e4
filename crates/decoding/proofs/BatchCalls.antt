-- The replies of `decode_blocks`, case by case.
use Rattle.std.proofs.Common.{Ok, Err}
use lib.IntN.{pos, ℤ}
use lib.ListN.{drop, length, replicate}
use mathlib.Core.List.{◌++◌, List}
use mathlib.Core.Logic.{inl, inr}
use mathlib.Core.Path.{ap, refl, subst, sym, ◌∙◌, ◌≡◌}
use native.Mathlib.Omega.{arith}
use Prim.Native.Nat.{◌*◌, ◌+◌, ◌-◌, ◌<◌, suc, ℕ, ◌≤◌}
use Rattle.decoding.proofs.Batched.{block_size}
use Rattle.decoding.proofs.BestWord.{best-word}
use Rattle.decoding.proofs.MetricBounds.{Within}
use Rattle.decoding.proofs.PlateSizes.{plate-sizes-fit, plate_sizes, sizes-are}
use Rattle.decoding.proofs.SampleLimits.{within-passes}
use Rattle.decoding.proofs.ZeroedRooms.{zeroed}
use Rattle.decoding.specs.Batch.{Blocks, DecodesBlocks, EachBest, answer_at, block_at, blocks_conditions}
use Rattle.decoding.specs.Batching.{BlocksFit, BlocksPut}
use Rattle.decoding.specs.declared.Counts.{Counts}
use Rattle.decoding.specs.declared.sweep.Sizes.{Sizes}
use Rattle.decoding.specs.Decode.{Best, SampleOver, decision_need, metric_need, metric_room}
use Rattle.decoding.specs.Metric.{limit}
use Rattle.decoding.specs.Needs.{SizesOf}
use Rattle.decoding.specs.Searching.{IsFirstOver}
use Rattle.decoding.specs.Sweeping.{SizesFit}
use Rattle.plates.specs.declared.Plate.{Plate}
use Rattle.plates.specs.declared.Refusal.{Refusal}
use Rattle.plates.specs.declared.Refusal.TheVariants.{DecisionRoom, MetricRoom, NotPrepared, SampleCount, SampleRange}
use Rattle.plates.specs.Prepare.{IsPrepared}
use Rattle.plates.specs.Refusals.{Passes}

-- ---- the answers

-- what is stored for each block is the best of it: the counts of the last block are those of every block
module _ (plate : Plate) (given : IsPrepared plate) {samples : List ℤ} {words : List ℕ} {scores metrics : List ℤ} {decisions : List ℕ}
    (fit : BlocksFit (plate_sizes plate given) samples words scores metrics decisions)
    {words' : List ℕ} {scores' metrics' : List ℤ} {decisions' : List ℕ} {counts : Counts}
    (done : BlocksPut plate.rows (plate_sizes plate given) samples words scores metrics decisions (length words) words' scores' metrics' decisions'
    counts) where
  best-last : (j : ℕ) → length words ≡ suc j → Best plate (block_at plate.n samples j) (answer_at words' scores' counts j)
  best-last j e =
      let h : j < length words = omega (arith, e) in
      best-word plate given (block_at plate.n samples j) (block_size fit.blocks j h) (answer_at words' scores' counts j) (done.each j h).word_is
      (done.each j h).metric_is (done.last j e)

  best-each : (b : ℕ) → b < length words → Best plate (block_at plate.n samples b) (answer_at words' scores' counts b)
  best-each b h =
      let e : length words ≡ suc (length words - 1) = omega (arith, h) in
      let last = best-last (length words - 1) e in
      let own =
      best-word plate given (block_at plate.n samples b) (block_size fit.blocks b h) (answer_at words' scores' _ b) (done.each b h).word_is
      (done.each b h).metric_is refl in
      record {
        codeword = own.codeword;
        metric = own.metric;
        greatest = own.greatest;
        earliest = own.earliest;
        additions = last.additions;
        comparisons = last.comparisons;
      }

  pub each-best : length scores ≡ length words → EachBest plate samples (length words) words' scores' counts
  each-best e = record { words_size = done.words_size; scores_size = omega (arith, done.scores_size, e); each = best-each; none = done.none }

-- ---- the replies

module _ (plate : Plate) (samples : List ℤ) (words : List ℕ) (scores metrics : List ℤ) (decisions : List ℕ) where
  -- a refusal, with all that is lent unchanged
  abbrev Unchanged : Refusal → Type 0
  Unchanged q = DecodesBlocks plate samples words scores metrics decisions words scores metrics decisions (Err q)

  pub refused-5 : (IsPrepared plate → ⊥) → Unchanged NotPrepared
  refused-5 n = (inl (n, refl), refl, refl, refl, refl)

  module _ (given : IsPrepared plate) where
    pub refused-6 : (Blocks plate.n samples words scores → ⊥) → Unchanged SampleCount
    refused-6 n = (inr ((λ q b. b.0 given), inl (n, refl)), refl, refl, refl, refl)

    module _ (blocks : Blocks plate.n samples words scores) where
      pub refused-7 : {over : ℕ} → IsFirstOver samples over → Unchanged (SampleRange over)
      refused-7 {over} found =
          let x : SampleOver samples (SampleRange over) = record { position = over; there = found.there; over = found.here; first = found.before; is = refl } in
          (inr ((λ q b. b.0 given), inr ((λ q b. b.0 blocks), inl x)), refl, refl, refl, refl)

      module _ (samples-within : Within limit samples) {z : Sizes}
          (of : SizesOf plate z) where
        no-sample-over : (q : Refusal) → SampleOver samples q → ⊥
        no-sample-over = within-passes samples samples-within

        -- the sizes are the plate's
        same : z ≡ plate_sizes plate given
        same = sizes-are plate given z of

        metrics-needed : z.half + z.half ≡ metric_need plate
        metrics-needed = ap (λ (y : Sizes). y.half + y.half) same ∙ omega arith

        decisions-needed : plate.n * z.words ≡ decision_need plate
        decisions-needed = ap (λ (y : Sizes). plate.n * y.words) same

        pub refused-8 : length metrics < z.half + z.half → Unchanged MetricRoom
        refused-8 h =
            (inr ((λ q b. b.0 given), inr ((λ q b. b.0 blocks), inr (no-sample-over, inl (omega (arith, h, metrics-needed), refl)))), refl, refl, refl, refl)

        module _ (metrics-there : z.half + z.half ≤ length metrics) where
          enough-metrics : (q : Refusal) → metric_room plate metrics q → ⊥
          enough-metrics q b = omega (arith, b.0, metrics-there, metrics-needed)

          pub refused-9 : length decisions < plate.n * z.words → Unchanged DecisionRoom
          refused-9 h =
              let x = subst (λ (x : ℕ). length decisions < x) decisions-needed h in
              (inr ((λ q b. b.0 given), inr ((λ q b. b.0 blocks), inr (no-sample-over, inr (enough-metrics, inl (x, refl))))), refl, refl, refl, refl)

          module _ (decisions-there : plate.n * z.words ≤ length decisions) where
            fit : BlocksFit (plate_sizes plate given) samples words scores metrics decisions
            fit = record {
              blocks = blocks;
              within = λ i k. omega (arith, samples-within i k);
              wanted = omega arith;
              metric_room = omega (arith, metrics-there, metrics-needed);
              decision_room = subst (λ (x : ℕ). x ≤ length decisions) decisions-needed decisions-there;
            }

            pub blocks-fit : SizesFit plate.rows z × BlocksFit z samples words scores metrics decisions
            blocks-fit =
                subst (λ (y : Sizes). SizesFit plate.rows y × BlocksFit y samples words scores metrics decisions) (sym same)
                (plate-sizes-fit plate given, fit)

            passes : Passes (blocks_conditions plate samples words scores metrics decisions)
            passes =
                ((λ q b. b.0 given), ((λ q b. b.0 blocks), (no-sample-over, (enough-metrics, ((λ q b. omega (arith, b.0, fit.decision_room)), tt)))))

            pub batched : {words' : List ℕ} {scores' metrics' : List ℤ} {decisions' : List ℕ} {counts : Counts}
                → BlocksPut plate.rows z samples words scores metrics decisions (length words) words' scores' metrics' decisions' counts
                → (metrics'' : List ℤ) → metrics'' ≡ replicate (z.half + z.half) (pos 0) ++ drop (z.half + z.half) metrics'
                → (decisions'' : List ℕ) → decisions'' ≡ replicate (plate.n * z.words) 0 ++ drop (plate.n * z.words) decisions'
                → DecodesBlocks plate samples words scores metrics decisions words' scores' metrics'' decisions'' (Ok counts)
            batched {words'} {scores'} {metrics'} {decisions'} {counts} put metrics'' x decisions'' y =
                let done =
                subst (λ (y : Sizes). BlocksPut plate.rows y samples words scores metrics decisions (length words) words' scores' metrics' decisions' counts)
                same put in (
                  passes,
                  each-best plate given fit done blocks.scores_are,
                  zeroed plate given metrics decisions metrics' decisions' done.kept _ _ metrics-needed decisions-needed metrics'' x decisions'' y,
                )
