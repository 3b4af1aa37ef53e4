-- The first n states of a section are done: how that holds at the start, after each decision word, and at the end.
use lib.IntN.{pos, ℤ}
use lib.ListN.{get_or, length, length-set, set}
use lib.Pow.{pow-add, pow_mono}
use lib.Seq.{get_or-set_other, get_or-set_same}
use mathlib.Core.Bool.{Bool, cond, false, true}
use mathlib.Core.List.{List}
use mathlib.Core.Logic.{inl, inr, ◌⊎◌, ⊎_elim}
use mathlib.Core.Path.{ap, ap₂, refl, sym, ◌∙◌, ◌≡◌}
use native.Mathlib.Nat.{zero-add}
use native.Mathlib.Omega.{arith}
use Prim.Native.Nat.{◌%◌, ◌*◌, ◌+◌, ◌-◌, ◌/◌, ◌<◌, ◌^◌, suc, zero, zero-le, ℕ, ◌≤◌}
use Rattle.decoding.proofs.Integers.{back, kept}
use Rattle.decoding.proofs.Parts.{below_or, state-same, still-ready}
use Rattle.decoding.proofs.Runs.{adds-le, compares-le, times-le}
use Rattle.decoding.proofs.StripParts.{low_word}
use Rattle.decoding.proofs.Targets.{live-le}
use Rattle.decoding.specs.Blocks.{Block, BlockFits, WordDone}
use Rattle.decoding.specs.declared.Counts.{Counts}
use Rattle.decoding.specs.declared.states.Run.{Run}
use Rattle.decoding.specs.Halves.{BlockReady}
use Rattle.decoding.specs.Patterns.{Pattern}
use Rattle.decoding.specs.Running.{Part, Ready, RunFits, adds_of, compares_of}
use Rattle.decoding.specs.Stepping.{StepFits, Stepped, olds}
use Rattle.decoding.specs.Tables.{FillFits, Tables, Weights}
use Rattle.decoding.specs.Taking.{Taken, at_state, counting}
use Rattle.trellises.specs.declared.Section.{Section}
use Rattle.trellises.specs.Numbers.{bit_of, leads_to}
use Rattle.words.specs.Word.{bit}

-- how many decision words 64 states or more have
pub word_count : (l w : ℕ) → 6 ≤ l → w ≡ 2 ^ (l - 6) → w * 64 ≡ 2 ^ l
word_count l w h e = let f : l ≡ l - 6 + 6 = omega arith in rw e (sym (ap (λ (n : ℕ). 2 ^ n) f ∙ pow-add 2 (l - 6) 6))

abbrev make : ℕ → ℕ → Counts
make a b = record { additions = a; comparisons = b }

-- what n states count
counting-is : (c : Section) (y : ℤ) (old : ℕ → ℤ) (n : ℕ) (k : Counts)
    → counting c y old n k ≡ record { additions = k.additions + n * adds_of c; comparisons = k.comparisons + n * compares_of c }
counting-is c y old zero k = ap₂ make (omega arith) (omega arith)
counting-is c y old (suc n) k =
    let h = counting-is c y old n k in
    ap₂ make
    (ap₂ ◌+◌ (ap (λ (z : Counts). z.additions) h) (adds c.begins refl) ∙ omega arith)
    (ap₂ ◌+◌ (ap (λ (z : Counts). z.comparisons) h) (compares c.begins refl) ∙ omega arith)
  where
    adds : (b : Bool) → c.begins ≡ b → (at_state c y old n).additions ≡ cond c.begins 2 1
    adds true e = rw e
    adds false e = rw e

    compares : (b : Bool) → c.begins ≡ b → (at_state c y old n).comparisons ≡ cond c.begins 1 0
    compares true e = rw e
    compares false e = rw e

-- what a step asks makes its metrics ready
pub step-ready : (M : List ℤ) (from to : ℕ) (D : List ℕ) (c : Section) (y : ℤ) (k : Counts) → StepFits M from to D c y k → Ready M from to c y
step-ready M from to D c y k h = record {
  section = h.section;
  gain = h.gain;
  place = λ x l. omega (arith, h.leads x l, h.old_room);
  small = λ x l. h.small (leads_to c x) (h.leads x l);
  apart = λ x l. ⊎_elim (λ a. inl (omega (arith, h.leads x l))) (λ a. inr (omega arith)) h.apart;
  room = h.new_room;
}

module _ (M : List ℤ) (from to : ℕ) (D : List ℕ) (c : Section) (y : ℤ) (k : Counts) where
  pub record Upto (n : ℕ) (M₁ : List ℤ) (D₁ : List ℕ) (k₁ : Counts) : Type 0 where
    pub within : n ≤ 2 ^ c.live
    pub size : length M₁ ≡ length M
    pub metric : (i : ℕ) → i < n → olds M₁ to i ≡ (at_state c y (olds M from) i).metric
    pub others : (j : ℕ) → (j < to) ⊎ (to + n ≤ j) → get_or M₁ j (pos 0) ≡ get_or M j (pos 0)
    pub words : length D₁ ≡ length D
    pub decision : 0 < length D → (i : ℕ) → i < n → bit (get_or D₁ (i / 64) 0) (i % 64) ≡ (at_state c y (olds M from) i).bit
    pub additions : k₁.additions ≡ k.additions + n * adds_of c
    pub comparisons : k₁.comparisons ≡ k.comparisons + n * compares_of c

  pub upto-none : Upto 0 M D k
  upto-none = record {
    within = zero-le;
    size = refl;
    metric = λ i h. absurd (omega arith);
    others = λ j o. refl;
    words = refl;
    decision = λ g i h. absurd (omega arith);
    additions = omega arith;
    comparisons = omega arith;
  }

  module _ (h : StepFits M from to D c y k) where
    -- the end
    pub upto_all : (M₁ : List ℤ) (D₁ : List ℕ) (k₁ : Counts) → Upto (2 ^ c.live) M₁ D₁ k₁ → Stepped M from to D c y k M₁ D₁ k₁
    upto_all M₁ D₁ k₁ u = record {
      size = u.size;
      metric = u.metric;
      others = u.others;
      words = u.words;
      decision = u.decision;
      counts = ap₂ make u.additions u.comparisons ∙ sym (counting-is c y (olds M from) (2 ^ c.live) k);
    }

    module _ (a : ℕ) (M₁ : List ℤ) (D₁ : List ℕ) (k₁ : Counts) (u : Upto (a * 64) M₁ D₁ k₁) where
      others-all : (j : ℕ) → (j < to) ⊎ (to + 2 ^ c.live ≤ j) → get_or M₁ j (pos 0) ≡ get_or M j (pos 0)
      others-all j o = u.others j (⊎_elim (λ l. inl l) (λ l. inr (omega (arith, u.within))) o)

      few : a * 64 ≤ 2 ^ 12
      few = omega (arith, u.within, live-le c h.section)

      -- what the next decision word asks
      pub block-fits : (w n : ℕ) → Pattern c.column w → n ≤ 64 → a * 64 + n ≤ 2 ^ c.live → BlockFits M₁ from to c y w a n k₁
      block-fits w n p l g = record {
        ready = still-ready M from to c y (step-ready M from to D c y k h) M₁ u.size others-all;
        word = l;
        states = g;
        pattern = p;
        additions = omega (arith, u.additions, h.additions, times-le (a * 64) (2 ^ 12) (adds_of c) 2 few (adds-le c));
        comparisons = omega (arith, u.comparisons, h.comparisons, times-le (a * 64) (2 ^ 12) (compares_of c) 1 few (compares-le c));
      }

      -- that word done
      module _ (n : ℕ) (l : n ≤ 64) (g : a * 64 + n ≤ 2 ^ c.live) (M₂ : List ℤ) (D₂ : List ℕ) (k₂ : Counts)
          (b : Block M₁ from to D₁ c y a n k₁ M₂ D₂ k₂) where
        same : (i : ℕ) → i < 2 ^ c.live → at_state c y (olds M₁ from) i ≡ at_state c y (olds M from) i
        same = state-same M from to c y (step-ready M from to D c y k h) M₁ u.size others-all

        metric : (i : ℕ) → i < a * 64 + n → olds M₂ to i ≡ (at_state c y (olds M from) i).metric
        metric i m = ⊎_elim low high (below_or (a * 64) n i m)
          where
            low : i < a * 64 → olds M₂ to i ≡ (at_state c y (olds M from) i).metric
            low q = b.part.others (to + i) (inl (omega arith)) ∙ u.metric i q

            high : (j : ℕ) × ((j < n) × (i ≡ a * 64 + j)) → olds M₂ to i ≡ (at_state c y (olds M from) i).metric
            high (j, (q, e)) = rw e (b.part.metric j q ∙ ap (λ (s : Taken). s.metric) (same (a * 64 + j) (omega arith)))

        decision : 0 < length D → (i : ℕ) → i < a * 64 + n → bit (get_or D₂ (i / 64) 0) (i % 64) ≡ (at_state c y (olds M from) i).bit
        decision some i m = ap (λ (d : List ℕ). bit (get_or d (i / 64) 0) (i % 64)) b.stored ∙ ⊎_elim low high (below_or (a * 64) n i m)
          where
            low : i < a * 64 → bit (get_or (set D₁ a b.word) (i / 64) 0) (i % 64) ≡ (at_state c y (olds M from) i).bit
            low q =
                let e : i / 64 ≡ a → ⊥ = λ z. omega arith in
                rw (get_or-set_other D₁ a (i / 64) b.word 0 e) (u.decision some i q)

            high : (j : ℕ) × ((j < n) × (i ≡ a * 64 + j)) → bit (get_or (set D₁ a b.word) (i / 64) 0) (i % 64) ≡ (at_state c y (olds M from) i).bit
            high (j, (q, e)) =
                let d : i / 64 ≡ a = omega arith in
                let r : i % 64 ≡ j = omega arith in
                let room : a < length D₁ = ⊎_elim (λ z. omega arith) (λ z. omega (arith, u.words)) h.wanted in
                rw (d, r, get_or-set_same D₁ a b.word 0 room, e) (b.part.decision j q ∙ ap (λ (s : Taken). s.bit) (same (a * 64 + j) (omega arith)))

        pub upto-more : Upto (a * 64 + n) M₂ D₂ k₂
        upto-more = record {
          within = g;
          size = b.part.size ∙ u.size;
          metric = metric;
          others = λ j o.
              b.part.others j (⊎_elim (λ q. inl (omega arith)) (λ q. inr (omega arith)) o)
              ∙ u.others j (⊎_elim (λ q. inl q) (λ q. inr (omega arith)) o);
          words = ap length b.stored ∙ length-set D₁ a b.word ∙ u.words;
          decision = decision;
          additions = omega (arith, b.part.additions, u.additions);
          comparisons = omega (arith, b.part.comparisons, u.comparisons);
        }

-- ---- a section taken

module _ {M : List ℤ} {from to : ℕ} {D : List ℕ} {c : Section} {y : ℤ} {k : Counts} (h : StepFits M from to D c y k) where
  gain-kept : kept y ≡ y
  gain-kept = back y (omega (arith, h.gain))

  -- it has one decision word
  module _ (l : c.live < 6) {n : ℕ} (e : n ≡ 2 ^ c.live) where
    count-le : n ≤ 64
    count-le = omega (arith, pow_mono {i = c.live} {j = 6} (omega arith))

    pub one-word-fits : {w : ℕ} → Pattern c.column w → RunFits M from to c y w 0 n k
    one-word-fits p = record {
      ready = step-ready M from to D c y k h;
      word = count-le;
      states = omega arith;
      pattern = λ i g. p.bits i (omega (arith, count-le)) ∙ ap (bit_of c) (sym (zero-add i));
      additions = omega (arith, h.additions);
      comparisons = omega (arith, h.comparisons);
    }

    pub one_word : {M₁ : List ℤ} {D₁ : List ℕ} {r : Run} → Part M from to c y 0 n k M₁ r → D₁ ≡ set D 0 r.word
        → Stepped M from to D c y k M₁ D₁ r.counts
    one_word {M₁} {D₁} {r} p s =
        let f : 0 * 64 + n ≡ 2 ^ c.live = omega arith in
        let b : Block M from to D c y 0 n k M₁ D₁ r.counts = record { word = r.word; part = p; stored = s } in
        upto_all M from to D c y k h M₁ D₁ r.counts
        (rw f at (upto-more M from to D c y k h 0 M D k (upto-none M from to D c y k) n count-le (omega arith) M₁ D₁ r.counts b))

-- ---- a section that has more than one decision word

-- the first `at` of its decision words are done, and the rooms for old metrics are there
pub record WordsDone (M : List ℤ) (from to : ℕ) (D : List ℕ) (c : Section) (y : ℤ) (words : ℕ) (k : Counts) (at : ℕ) (M₁ : List ℤ) (D₁ : List ℕ)
    (near far : List ℤ) (k₁ : Counts) : Type 0 where
  pub count : words * 64 ≡ 2 ^ c.live
  pub near_size : length near ≡ 32
  pub far_size : length far ≡ 32
  pub done : Upto M from to D c y k (at * 64) M₁ D₁ k₁

-- the tables are filled
pub fill-asks : {M : List ℤ} {from to : ℕ} {D : List ℕ} {c : Section} {y : ℤ} {k : Counts} → StepFits M from to D c y k
    → {signs ties : List ℤ} {weights : List ℕ} → length signs ≡ 64 → length ties ≡ 64 → Weights weights → FillFits signs ties weights (kept y)
fill-asks h s t m = rw (gain-kept h) (record { signs_size = s; ties_size = t; masks = m; gain = h.gain })

module _ {M : List ℤ} {from to : ℕ} {D : List ℕ} {c : Section} {y : ℤ} {k : Counts} (wide : 6 ≤ c.live) (h : StepFits M from to D c y k) where
  pub words-none : {words : ℕ} → words ≡ 2 ^ (c.live - 6) → {near far : List ℤ} → length near ≡ 32 → length far ≡ 32
      → WordsDone M from to D c y words k 0 M D near far k
  words-none {words} e n f = record { count = word_count c.live words wide e; near_size = n; far_size = f; done = upto-none M from to D c y k }

  module _ {words at : ℕ} {M₁ : List ℤ} {D₁ : List ℕ} {near far : List ℤ} {k₁ : Counts}
      (s : WordsDone M from to D c y words k at M₁ D₁ near far k₁) where
    pub words-all : words ≤ at → Stepped M from to D c y k M₁ D₁ k₁
    words-all l =
        let e : at * 64 ≡ 2 ^ c.live = omega (arith, s.count, s.done.within) in
        upto_all M from to D c y k h M₁ D₁ k₁ (rw e at s.done)

    -- the next decision word
    module _ (l : at < words) where
      next-within : at * 64 + 64 ≤ 2 ^ c.live
      next-within = omega (arith, s.count)

      -- v is the lower half of its pattern, by which the tables are filled
      pub word-prepared : {w v : ℕ} → Pattern c.column w → v ≡ w % 2 ^ 32 → {weights : List ℕ} {signs ties : List ℤ} → Weights weights
          → Tables v (kept y) signs ties → BlockReady c y weights signs ties near far
      word-prepared {w} {v} p e m t = record {
        wide = wide;
        masks = m;
        word = v;
        pattern = λ i g. ap (λ (x : ℕ). bit x i) e ∙ low_word w i g ∙ p.bits i (omega arith);
        tables = rw (gain-kept h) at t;
        near_size = s.near_size;
        far_size = s.far_size;
      }

      pub word_fits : {w : ℕ} → Pattern c.column w → BlockFits M₁ from to c y w at 64 k₁
      word_fits {w} p = block-fits M from to D c y k h at M₁ D₁ k₁ s.done w 64 p (omega arith) next-within

      pub words_more : {M₂ : List ℤ} {D₂ : List ℕ} {near' far' : List ℤ} {k₂ : Counts} → WordDone M₁ from to D₁ c y at k₁ M₂ D₂ near' far' k₂
          → WordsDone M from to D c y words k (at + 1) M₂ D₂ near' far' k₂
      words_more {M₂} {D₂} {near'} {far'} {k₂} b =
          let e : (at + 1) * 64 ≡ at * 64 + 64 = omega arith in
          record {
            count = s.count;
            near_size = b.near_size;
            far_size = b.far_size;
            done = rw e (upto-more M from to D c y k h at M₁ D₁ k₁ s.done 64 (omega arith) next-within M₂ D₂ k₂ b.block);
          }
