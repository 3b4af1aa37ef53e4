-- Determined: two replies of a batch, with all that is lent, that meet its promise are equal; and each answer is the one that `decode` gives of its
-- block.
use Rattle.std.proofs.Common.{Result, Ok, Err}
use lib.IntN.{pos, ℤ}
use lib.ListN.{length}
use lib.Seq.{ext_get_or}
use mathlib.Core.List.{List}
use mathlib.Core.Path.{ap, refl, sym, ◌∙◌, ◌≡◌}
use native.Mathlib.Decide.{ℕ_discrete}
use native.Mathlib.Omega.{arith}
use Prim.Native.Nat.{◌*◌, ◌<◌, suc, zero, ℕ}
use Rattle.decoding.proofs.Batched.{block_size, block_within}
use Rattle.decoding.proofs.DecodeDetermined.{answer-same, counts_same, sample-once}
use Rattle.decoding.proofs.MetricBounds.{Within}
use Rattle.decoding.proofs.SampleLimits.{none_over, within-passes}
use Rattle.decoding.specs.Batch.{Blocks, DecodesBlocks, EachBest, answer_at, block_at, block_count, blocks_conditions}
use Rattle.decoding.specs.declared.Answer.{Answer}
use Rattle.decoding.specs.declared.Counts.{Counts}
use Rattle.decoding.specs.Decode.{Decodes, decode_conditions}
use Rattle.decoding.specs.Metric.{limit}
use Rattle.plates.proofs.Refusing.{Single, never_both, refuses-once}
use Rattle.plates.specs.declared.Plate.{Plate}
use Rattle.plates.specs.declared.Refusal.{Refusal}
use Rattle.plates.specs.declared.Refusal.TheVariants.{SampleCount}
use Rattle.plates.specs.Refusals.{Passes}

module _ (plate : Plate) (samples : List ℤ) (words : List ℕ) (scores metrics : List ℤ) (decisions : List ℕ) where
  abbrev conditions : List (Refusal → Type 0)
  conditions = blocks_conditions plate samples words scores metrics decisions

  single : Single (blocks_conditions plate samples words scores metrics decisions)
  single = (
    (λ p q x y. x.1 ∙ sym y.1),
    ((λ p q x y. x.1 ∙ sym y.1), (sample-once plate samples metrics decisions, ((λ p q x y. x.1 ∙ sym y.1), ((λ p q x y. x.1 ∙ sym y.1), tt)))),
  )

  module _ {words' words'' : List ℕ} {scores' scores'' : List ℤ} {counts' counts'' : Counts}
      (x : EachBest plate samples (length words) words' scores' counts') (y : EachBest plate samples (length words) words'' scores'' counts'') where
    batch-counts : (count : ℕ) → length words ≡ count → counts' ≡ counts''
    batch-counts zero e = x.none e ∙ sym (y.none e)
    batch-counts (suc j) e =
        let h : 0 < length words = omega (arith, e) in
        counts_same ((x.each 0 h).additions ∙ sym (y.each 0 h).additions) ((x.each 0 h).comparisons ∙ sym (y.each 0 h).comparisons)

    answers-same : (b : ℕ) → b < length words → answer_at words' scores' counts' b ≡ answer_at words'' scores'' counts'' b
    answers-same b h = answer-same plate (block_at plate.n samples b) metrics decisions _ _ (x.each b h) (y.each b h)

    batch-words : words' ≡ words''
    batch-words =
        ext_get_or 0 words' words'' (x.words_size ∙ sym y.words_size)
        (λ b h. ap (λ (a : Answer). a.word) (answers-same b (omega (arith, h, x.words_size))))

    batch-scores : scores' ≡ scores''
    batch-scores =
        ext_get_or (pos 0) scores' scores'' (x.scores_size ∙ sym y.scores_size)
        (λ b h. ap (λ (a : Answer). a.metric) (answers-same b (omega (arith, h, x.scores_size))))

  pub blocks-determined : (r s : Result Counts Refusal) (w x : List ℕ) (v y m n : List ℤ) (d e : List ℕ)
      → DecodesBlocks plate samples words scores metrics decisions w v m d r
      → DecodesBlocks plate samples words scores metrics decisions x y n e s → (r ≡ s) × (w ≡ x) × (v ≡ y) × (m ≡ n) × (d ≡ e)
  blocks-determined (Ok a) (Ok b) w x v y m n d e p q = (
    ap Ok (batch-counts p.1 q.1 (length words) refl),
    batch-words p.1 q.1,
    batch-scores p.1 q.1,
    p.2.metrics_zero ∙ sym q.2.metrics_zero,
    p.2.decisions_zero ∙ sym q.2.decisions_zero,
  )
  blocks-determined (Ok a) (Err q) w x v y m n d e h k = absurd (never_both conditions h.0 q k.0)
  blocks-determined (Err p) (Ok b) w x v y m n d e h k = absurd (never_both conditions k.0 p h.0)
  blocks-determined (Err p) (Err q) w x v y m n d e h k =
      (ap Err (refuses-once conditions single p q h.0 k.0), h.1 ∙ sym k.1, h.2 ∙ sym k.2, h.3 ∙ sym k.3, h.4 ∙ sym k.4)

  -- ---- each answer is decode's

  -- what is not refused with 6 is whole blocks
  blocks-are : ((q : Refusal) → block_count plate samples words scores q → ⊥) → Blocks plate.n samples words scores
  blocks-are passes = go (ℕ_discrete (length samples) (length words * plate.n)) (ℕ_discrete (length scores) (length words))
    where
      go : Dec (length samples ≡ length words * plate.n) → Dec (length scores ≡ length words) → Blocks plate.n samples words scores
      go (yes e) (yes f) = record { samples_are = e; scores_are = f }
      go (yes e) (no d) = absurd (passes SampleCount ((λ b. d b.scores_are), refl))
      go (no d) f = absurd (passes SampleCount ((λ b. d b.samples_are), refl))

  -- where a batch is not refused, no block of it is
  block-passes : Passes (blocks_conditions plate samples words scores metrics decisions) → (b : ℕ) → b < length words
      → Passes (decode_conditions plate (block_at plate.n samples b) metrics decisions)
  block-passes h b l =
      (h.0, ((λ q c. c.0 (block_size blocks b l)), (within-passes (block_at plate.n samples b) within, h.1.1.1)))
    where
      blocks : Blocks plate.n samples words scores
      blocks = blocks-are h.1.0

      within : Within limit (block_at plate.n samples b)
      within = block_within blocks limit (none_over samples h.1.1.0) b l

  pub each-decoded : (counts : Counts) (w : List ℕ) (v m : List ℤ) (d : List ℕ)
      → DecodesBlocks plate samples words scores metrics decisions w v m d (Ok counts)
      → (b : ℕ) → b < length words → (r : Result Answer Refusal) (n : List ℤ) (e : List ℕ)
      → Decodes plate (block_at plate.n samples b) metrics decisions n e r
      → r ≡ Ok (answer_at w v counts b)
  each-decoded counts w v m d p b h (Ok a) n e x =
      ap Ok (answer-same plate (block_at plate.n samples b) metrics decisions a (answer_at w v counts b) x.1 (p.1.each b h))
  each-decoded counts w v m d p b h (Err q) n e x =
      absurd (never_both (decode_conditions plate (block_at plate.n samples b) metrics decisions) (block-passes p.0 b h) q x.0)
