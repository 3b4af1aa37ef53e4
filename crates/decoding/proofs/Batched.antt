-- A batch, block by block: whether there are whole blocks, what each of them asks, and what the blocks up to one have stored.
use borrow.Author.Tests.{eqb-false, eqb-true}
use lib.Dec.{eqb}
use lib.IntN.{nat_abs, pos, ℤ}
use lib.ListN.{drop, get_or, length, length-drop, length-set, take}
use lib.Seq.{get_or-drop, get_or-set_other, get_or-set_same, get_or-take, length-take-le}
use mathlib.Core.Bool.{false, false≢true}
use mathlib.Core.List.{List}
use mathlib.Core.Logic.{inl, inr, ◌⊎◌}
use mathlib.Core.Path.{ap, refl, subst, sym, ◌∙◌, ◌≡◌}
use native.Mathlib.Nat.{add-sub_cancel_left, div-add-mod', mul-div_cancel, mul-le-mul_right, mul-mod_left, suc-mul}
use native.Mathlib.Omega.{arith}
use Prim.Native.Nat.{◌%◌, ◌*◌, ◌+◌, ◌-◌, ◌/◌, ◌<◌, suc, ℕ, ◌≤◌}
use Rattle.decoding.proofs.MetricBounds.{Within}
use Rattle.decoding.proofs.SweepEnds.{kept_refl, kept_trans}
use Rattle.decoding.specs.Backward.{counted}
use Rattle.decoding.specs.Batch.{Blocks, block_at}
use Rattle.decoding.specs.Batching.{AreBlocks, BlockFits, BlockPut, BlocksFit, BlocksPut, SearchedAs}
use Rattle.decoding.specs.declared.Counts.{Counts}
use Rattle.decoding.specs.declared.sweep.Sizes.{Sizes}
use Rattle.decoding.specs.Stepping.{gain_limit}
use Rattle.decoding.specs.Sweeping.{RoomsFit}
use Rattle.decoding.specs.Turning.{turned_by}
use Rattle.trellises.specs.SectionOf.{section_of}
use Rattle.words.proofs.Span.{lt-tri}

-- ---- whole blocks

module _ {samples n words scores : ℕ} where
  pub some_left : (samples % n ≡ 0 → ⊥) → AreBlocks samples n words scores false
  some_left left = record { yes_is = λ t. absurd (false≢true t); no_is = λ t e c. left (ap (λ (x : ℕ). x % n) e ∙ mul-mod_left words n) }

  pub other-count : 0 < n → (samples / n ≡ words → ⊥) → AreBlocks samples n words scores false
  other-count some other = record { yes_is = λ t. absurd (false≢true t); no_is = λ t e c. other (ap (λ (x : ℕ). x / n) e ∙ mul-div_cancel words some) }

  pub whole-blocks : samples % n ≡ 0 → samples / n ≡ words → AreBlocks samples n words scores (eqb scores words)
  whole-blocks none same = record { yes_is = λ t. (whole, eqb-true scores words t); no_is = λ t e c. eqb-false scores words t c }
    where
      whole : samples ≡ words * n
      whole =
          let e : samples / n * n + samples % n ≡ samples = div-add-mod' samples n in
          let f : samples / n * n ≡ words * n = ap (λ (x : ℕ). x * n) same in
          omega (arith, e, f, none)

-- ---- one block of them

module _ {n : ℕ} {samples : List ℤ} {words : List ℕ} {scores : List ℤ} (blocks : Blocks n samples words scores) where
  -- a block lies within the run
  pub block-end : (b : ℕ) → b < length words → b * n + n ≤ length samples
  block-end b h =
      let s : suc b ≤ length words = omega arith in
      let e : suc b * n ≤ length words * n = mul-le-mul_right n s in
      omega (arith, e, suc-mul b n, blocks.samples_are)

  pub block_size : (b : ℕ) → b < length words → length (block_at n samples b) ≡ n
  block_size b h = length-take-le n (drop (b * n) samples) (omega (arith, length-drop (b * n) samples, block-end b h))

  pub block_within : (most : ℕ) → Within most samples → (b : ℕ) → b < length words → Within most (block_at n samples b)
  block_within most within b h i l =
      let k : i < n = omega (arith, block_size b h) in
      let e : get_or (block_at n samples b) i (pos 0) ≡ get_or samples (b * n + i) (pos 0) =
      get_or-take n (drop (b * n) samples) i (pos 0) k ∙ get_or-drop (b * n) samples i (pos 0) in
      subst (λ (y : ℤ). nat_abs y ≤ most) (sym e) (within (b * n + i) (omega (arith, block-end b h)))

module _ {z : Sizes} {samples : List ℤ} {words : List ℕ} {scores metrics : List ℤ} {decisions : List ℕ}
    (fit : BlocksFit z samples words scores metrics decisions) where
  -- the part that is lent
  part-is : (b : ℕ) → take (b * z.n + z.n - b * z.n) (drop (b * z.n) samples) ≡ block_at z.n samples b
  part-is b = ap (λ (x : ℕ). take x (drop (b * z.n) samples)) (add-sub_cancel_left (b * z.n) z.n)

  module _ {table : List ℕ} {b : ℕ} {words' : List ℕ} {scores' metrics' : List ℤ} {decisions' : List ℕ} {counts : Counts}
      (done : BlocksPut table z samples words scores metrics decisions b words' scores' metrics' decisions' counts) (h : b < length words) where
    pub block_inside : b * z.n + z.n ≤ length samples
    block_inside = block-end fit.blocks b h

    pub block-fits : BlockFits z (take (b * z.n + z.n - b * z.n) (drop (b * z.n) samples)) b words' scores' metrics' decisions'
    block-fits = record {
      rooms = subst (λ (ys : List ℤ). RoomsFit z ys metrics' decisions') (sym (part-is b)) rooms;
      wanted = fit.wanted;
      word_there = omega (arith, done.words_size, h);
      score_there = omega (arith, done.scores_size, fit.blocks.scores_are, h);
    }
      where
        rooms : RoomsFit z (block_at z.n samples b) metrics' decisions'
        rooms = record {
          size = block_size fit.blocks b h;
          within = block_within fit.blocks gain_limit fit.within b h;
          metric_room = omega (arith, fit.metric_room, done.kept.metrics_size);
          decision_room = omega (arith, fit.decision_room, done.kept.decisions_size);
        }

    module _ {words'' : List ℕ} {scores'' metrics'' : List ℤ} {decisions'' : List ℕ} {counts'' : Counts}
        (put : BlockPut table z (take (b * z.n + z.n - b * z.n) (drop (b * z.n) samples)) b words' scores' metrics' decisions' words'' scores'' metrics''
        decisions'' counts'') where
      here : SearchedAs table z (block_at z.n samples b) (get_or words'' b 0) (get_or scores'' b (pos 0))
      here = subst (λ (ys : List ℤ). SearchedAs table z ys (get_or words'' b 0) (get_or scores'' b (pos 0))) (part-is b) (record {
        word_is = ap (λ (l : List ℕ). get_or l b 0) put.words_are ∙ get_or-set_same words' b put.answer.word 0 block-fits.word_there ∙ put.searched.word;
        metric_is =
            ap (λ (l : List ℤ). get_or l b (pos 0)) put.scores_are ∙ get_or-set_same scores' b put.answer.metric (pos 0) block-fits.score_there
            ∙ put.searched.metric;
      })

      earlier : (i : ℕ) → i < b → SearchedAs table z (block_at z.n samples i) (get_or words'' i 0) (get_or scores'' i (pos 0))
      earlier i l =
          let other : i ≡ b → ⊥ = λ e. omega (arith, e, l) in
          let e : get_or words'' i 0 ≡ get_or words' i 0 =
          ap (λ (x : List ℕ). get_or x i 0) put.words_are ∙ get_or-set_other words' b i put.answer.word 0 other in
          let f : get_or scores'' i (pos 0) ≡ get_or scores' i (pos 0) =
          ap (λ (x : List ℤ). get_or x i (pos 0)) put.scores_are ∙ get_or-set_other scores' b i put.answer.metric (pos 0) other in
          record { word_is = e ∙ (done.each i l).word_is; metric_is = f ∙ (done.each i l).metric_is }

      each_on : (i : ℕ) → (i < b) ⊎ ((i ≡ b) ⊎ (b < i)) → i < b + 1
          → SearchedAs table z (block_at z.n samples i) (get_or words'' i 0) (get_or scores'' i (pos 0))
      each_on i (inl l) k = earlier i l
      each_on i (inr (inl e)) k =
          subst (λ (x : ℕ). SearchedAs table z (block_at z.n samples x) (get_or words'' x 0) (get_or scores'' x (pos 0))) (sym e) here
      each_on i (inr (inr l)) k = absurd (omega arith)

      counts-on : counts'' ≡ counted (section_of (take z.k table)) (turned_by z.rest (block_at z.n samples b)) 0
      counts-on =
          put.counts_are ∙ put.searched.counts
          ∙ ap (λ (ys : List ℤ). counted (section_of (take z.k table)) (turned_by z.rest ys) 0) (part-is b)

      pub blocks-on : BlocksPut table z samples words scores metrics decisions (b + 1) words'' scores'' metrics'' decisions'' counts''
      blocks-on = record {
        words_size = ap length put.words_are ∙ length-set words' b put.answer.word ∙ done.words_size;
        scores_size = ap length put.scores_are ∙ length-set scores' b put.answer.metric ∙ done.scores_size;
        each = λ i k. each_on i (lt-tri i b) k;
        none = λ e. absurd (omega (arith, e));
        last = λ i e.
            let s : b ≡ i = omega (arith, e) in
            subst (λ (x : ℕ). counts'' ≡ counted (section_of (take z.k table)) (turned_by z.rest (block_at z.n samples x)) 0) s counts-on;
        kept = kept_trans done.kept put.searched.kept;
      }

-- none of them yet
pub blocks_start : (table : List ℕ) (z : Sizes) (samples : List ℤ) (words : List ℕ) (scores metrics : List ℤ) (decisions : List ℕ)
    → BlocksPut table z samples words scores metrics decisions 0 words scores metrics decisions (record { additions = 0; comparisons = 0 })
blocks_start table z samples words scores metrics decisions = record {
  words_size = refl;
  scores_size = refl;
  each = λ i h. absurd (omega arith);
  none = λ e. refl;
  last = λ i e. absurd (omega (arith, e));
  kept = kept_refl z metrics decisions;
}

-- all of them
pub all-put : {table : List ℕ} {z : Sizes} {samples : List ℤ} {words : List ℕ} {scores metrics : List ℤ} {decisions : List ℕ} {b : ℕ} {words' : List ℕ}
    {scores' metrics' : List ℤ} {decisions' : List ℕ} {counts : Counts} → b ≡ length words
    → BlocksPut table z samples words scores metrics decisions b words' scores' metrics' decisions' counts
    → BlocksPut table z samples words scores metrics decisions (length words) words' scores' metrics' decisions' counts
all-put {table} {z} {samples} {words} {scores} {metrics} {decisions} {b} {words'} {scores'} {metrics'} {decisions'} {counts} e =
    subst (λ (x : ℕ). BlocksPut table z samples words scores metrics decisions x words' scores' metrics' decisions' counts) e
