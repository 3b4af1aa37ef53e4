-- Some states done, then those below them: together they are one part, since no state writes a metric that another reads.
use borrow.Author.Tests.{ltb-false, ltb-true}
use lib.Dec.{ltb}
use lib.IntN.{pos, ℤ}
use lib.ListN.{get_or, length, length-set, set}
use lib.Seq.{get_or-set_other, get_or-set_same}
use mathlib.Core.Bool.{Bool, false, true}
use mathlib.Core.List.{List}
use mathlib.Core.Logic.{inl, inr, ◌⊎◌, ⊎_elim}
use mathlib.Core.Path.{ap, refl, ◌∙◌, ◌≡◌}
use native.Mathlib.Nat.{add-zero}
use native.Mathlib.Omega.{arith}
use Prim.Native.Nat.{◌%◌, ◌*◌, ◌+◌, ◌-◌, ◌<◌, ◌^◌, suc, zero, ℕ, ◌≤◌}
use Rattle.decoding.proofs.Digits.{bit_high, bit-low, cat-lt}
use Rattle.decoding.proofs.Targets.{first-branch, second-branch}
use Rattle.decoding.specs.declared.Counts.{Counts}
use Rattle.decoding.specs.declared.states.Run.{Run}
use Rattle.decoding.specs.Running.{Part, Ready, adds_of, compares_of}
use Rattle.decoding.specs.Stepping.{olds}
use Rattle.decoding.specs.Taking.{Taken, at_state}
use Rattle.trellises.specs.declared.Section.{Section}
use Rattle.trellises.specs.Numbers.{branch_count, leads_to}
use Rattle.words.specs.Word.{bit}

-- a state goes by the metrics where its branches lead
same_at : (c : Section) (y : ℤ) (f g : ℕ → ℤ) (i : ℕ) (t : Bool) → c.begins ≡ t → f (leads_to c i) ≡ g (leads_to c i)
    → (c.begins ≡ true → f (leads_to c (i + 2 ^ c.live)) ≡ g (leads_to c (i + 2 ^ c.live))) → at_state c y f i ≡ at_state c y g i
same_at c y f g i true e p q = let r = q e in rw (e, p, r)
same_at c y f g i false e p q = rw (e, p)

-- the next place is the last one done, or one before
pub below_or : (n m i : ℕ) → i < n + m → (i < n) ⊎ ((j : ℕ) × ((j < m) × (i ≡ n + j)))
below_or n m i l = go (ltb i n) refl
  where
    go : (t : Bool) → ltb i n ≡ t → (i < n) ⊎ ((j : ℕ) × ((j < m) × (i ≡ n + j)))
    go true e = inl (ltb-true i n e)
    go false e = let h = ltb-false i n e in inr (i - n, (omega arith, omega arith))

module _ (M : List ℤ) (from to : ℕ) (c : Section) (y : ℤ) (ready : Ready M from to c y) where
  -- one state, whose metric is stored
  module _ (i : ℕ) (l : i < 2 ^ c.live) (v : ℤ) (k : Counts) (r : Run) (ev : v ≡ (at_state c y (olds M from) i).metric)
      (ew : r.word ≡ (at_state c y (olds M from) i).bit) (hw : r.word < 2)
      (ea : r.counts.additions ≡ k.additions + adds_of c) (ec : r.counts.comparisons ≡ k.comparisons + compares_of c) where
    pub single : Part M from to c y i 1 k (set M (to + i) v) r
    single = record {
      size = length-set M (to + i) v;
      metric = metric;
      others = λ j o. get_or-set_other M (to + i) j v (pos 0) (λ e. ⊎_elim (λ h. omega arith) (λ h. omega arith) o);
      decision = decision;
      short = omega arith;
      additions = omega arith;
      comparisons = omega arith;
    }
      where
        metric : (j : ℕ) → j < 1 → olds (set M (to + i) v) to (i + j) ≡ (at_state c y (olds M from) (i + j)).metric
        metric zero h = rw (add-zero i) (get_or-set_same M (to + i) v (pos 0) (omega (arith, ready.room)) ∙ ev)
        metric (suc j) h = absurd (omega arith)

        decision : (j : ℕ) → j < 1 → bit r.word j ≡ (at_state c y (olds M from) (i + j)).bit
        decision zero h = let e : r.word % 2 ≡ r.word = omega arith in rw (add-zero i) (e ∙ ew)
        decision (suc j) h = absurd (omega arith)

  -- metrics that differ from M at new places alone
  module _ (M₁ : List ℤ) (size : length M₁ ≡ length M)
      (others : (j : ℕ) → (j < to) ⊎ (to + 2 ^ c.live ≤ j) → get_or M₁ j (pos 0) ≡ get_or M j (pos 0)) where
    source-same : (x : ℕ) → x < branch_count c → olds M₁ from (leads_to c x) ≡ olds M from (leads_to c x)
    source-same x h = others (from + leads_to c x) (ready.apart x h)

    pub state-same : (i : ℕ) → i < 2 ^ c.live → at_state c y (olds M₁ from) i ≡ at_state c y (olds M from) i
    state-same i h =
        same_at c y (olds M₁ from) (olds M from) i c.begins refl (source-same i (first-branch c ready.section i h))
        (λ e. source-same (i + 2 ^ c.live) (second-branch c ready.section i h e))

    pub still-ready : Ready M₁ from to c y
    still-ready = record {
      section = ready.section;
      gain = ready.gain;
      place = λ x h. omega (arith, ready.place x h);
      small = λ x h. rw (source-same x h) (ready.small x h);
      apart = ready.apart;
      room = omega (arith, ready.room);
    }

  -- such are those after a part
  pub part-others : (lo n : ℕ) → lo + n ≤ 2 ^ c.live → (k : Counts) (M₁ : List ℤ) (r : Run) → Part M from to c y lo n k M₁ r
      → (j : ℕ) → (j < to) ⊎ (to + 2 ^ c.live ≤ j) → get_or M₁ j (pos 0) ≡ get_or M j (pos 0)
  part-others lo n l k M₁ r p j o = p.others j (⊎_elim (λ a. inl (omega arith)) (λ a. inr (omega arith)) o)

  -- m states from lo + n on, then n states from lo on
  module _ (lo n m : ℕ) (l : lo + n + m ≤ 2 ^ c.live) (k : Counts) (M₁ M₂ : List ℤ) (r₁ r₂ r : Run)
      (p : Part M from to c y (lo + n) m k M₁ r₁) (q : Part M₁ from to c y lo n r₁.counts M₂ r₂)
      (ew : r.word ≡ r₁.word * 2 ^ n + r₂.word) (ek : r.counts ≡ r₂.counts) where
    metric : (i : ℕ) → i < n + m → olds M₂ to (lo + i) ≡ (at_state c y (olds M from) (lo + i)).metric
    metric i h = ⊎_elim low high (below_or n m i h)
      where
        low : i < n → olds M₂ to (lo + i) ≡ (at_state c y (olds M from) (lo + i)).metric
        low g = q.metric i g ∙ ap (λ (s : Taken). s.metric) (state-same M₁ p.size (part-others (lo + n) m l k M₁ r₁ p) (lo + i) (omega arith))

        high : (j : ℕ) × ((j < m) × (i ≡ n + j)) → olds M₂ to (lo + i) ≡ (at_state c y (olds M from) (lo + i)).metric
        high (j, (g, e)) =
            let a : lo + i ≡ lo + n + j = omega arith in
            rw a (q.others (to + (lo + n + j)) (inr (omega arith)) ∙ p.metric j g)

    decision : (i : ℕ) → i < n + m → bit r.word i ≡ (at_state c y (olds M from) (lo + i)).bit
    decision i h = ap (λ (w : ℕ). bit w i) ew ∙ ⊎_elim low high (below_or n m i h)
      where
        low : i < n → bit (r₁.word * 2 ^ n + r₂.word) i ≡ (at_state c y (olds M from) (lo + i)).bit
        low g =
            bit-low n r₁.word r₂.word i g ∙ q.decision i g
            ∙ ap (λ (s : Taken). s.bit) (state-same M₁ p.size (part-others (lo + n) m l k M₁ r₁ p) (lo + i) (omega arith))

        high : (j : ℕ) × ((j < m) × (i ≡ n + j)) → bit (r₁.word * 2 ^ n + r₂.word) i ≡ (at_state c y (olds M from) (lo + i)).bit
        high (j, (g, e)) =
            let a : lo + i ≡ lo + n + j = omega arith in
            rw (a, e) (bit_high n r₁.word r₂.word j q.short ∙ p.decision j g)

    pub join : Part M from to c y lo (n + m) k M₂ r
    join = record {
      size = q.size ∙ p.size;
      metric = metric;
      others = λ j o.
          q.others j (⊎_elim (λ a. inl a) (λ a. inr (omega arith)) o)
          ∙ p.others j (⊎_elim (λ a. inl (omega arith)) (λ a. inr (omega arith)) o);
      decision = decision;
      short = rw ew (cat-lt n m r₁.word r₂.word p.short q.short);
      additions = ap (λ (z : Counts). z.additions) ek ∙ omega (arith, q.additions, p.additions);
      comparisons = ap (λ (z : Counts). z.comparisons) ek ∙ omega (arith, q.comparisons, p.comparisons);
    }
