-- The surplus depth by depth: what is counted is at least ours, and what it is more stands in its place.
use borrow.Author.Tests.{eq-eqb, ne_eqb}
use lib.ListN.{get_or, length, length-set, replicate, set}
use lib.Seq.{get_or-set_other, get_or-set_same}
use mathlib.Core.List.{List}
use mathlib.Core.Path.{ap, refl, subst, sym, ◌∙◌, ◌≡◌}
use native.Mathlib.Decide.{dec_lt}
use native.Mathlib.Omega.{arith}
use Prim.Native.Nat.{◌+◌, ◌<◌, ◌^◌, suc, ℕ, ◌≤◌}
use Rattle.plates.proofs.SoundIsPrepared.{prepared}
use Rattle.plates.proofs.TableFilled.{zeros-at}
use Rattle.plates.specs.Code.{Masked}
use Rattle.plates.specs.Profile.{live_at}
use Rattle.trellises.proofs.PlateTrellis.{plate-spans}
use Rattle.trellises.proofs.SectionAgrees.{section-agrees}
use Rattle.trellises.specs.declared.Section.{Section}
use Rattle.trellises.specs.Graph.{Spells}
use Rattle.trellises.specs.Numbers.{branch_count}
use Rattle.trellises.specs.SectionOf.{held, section_of}
use Rattle.trellises.specs.Smallest.{active_at}
use Rattle.words.proofs.Sums.{in-zero}
use Rattle.words.proofs.Word.{xor_self}
use Rattle.words.specs.Choice.{count}
use Rattle.words.specs.Ends.{firsts, lasts}
use Rattle.words.specs.Span.{Spans}
use Rattle.words.specs.Sum.{IsSum}
use Rattle.judging.proofs.Judgements.{found_right}
use Rattle.judging.proofs.NoFewer.{no-fewer-branches, no-fewer-states}
use Rattle.judging.proofs.NumbersOn.{branches-counted, end-counted, states-counted}
use Rattle.judging.proofs.StatesTold.{end-states, of-plate, section-is, states-are}
use Rattle.judging.proofs.Theirs.{has-line}
use Rattle.judging.proofs.Ways.{Ended}
use Rattle.judging.specs.Marks.{first_test, used_test}
use Rattle.judging.specs.Ours.{ours}
use Rattle.judging.specs.Room.{Holds, theirs}
use Rattle.judging.specs.Steps.{SurplusAsks}
use Rattle.judging.specs.Ways.{Same}
use Rattle.judging.specs.Surplus.{BranchOn, Number, StateOn, SurplusOver}

-- the graph that the room holds has one state at each end
their-ends : (n lines : ℕ) (room : List ℕ) → 1 ≤ n → Holds n lines room → Ended (theirs n lines room) n
their-ends n lines room p h = record {
  start = refl;
  end = rw (ne_eqb n 0 (λ e. omega (arith, e, p)), eq-eqb n n refl);
  inside = λ t a b c l x.
      let r = has-line n lines room t a b c x in
      rw (ne_eqb (suc t) 0 (λ e. omega (arith, e)), ne_eqb (suc t) n (λ e. omega (arith, e, l))) (subst (λ (k : ℕ). k < 1024) r.3 (h.leads r.0 r.1));
}

module _ {rows : List ℕ} {n : ℕ} {room : List ℕ} {lines : ℕ} (p : SurplusAsks rows n room lines) where
  spans : Spans rows (firsts rows) (lasts rows)
  spans = of-plate (λ (r : List ℕ) (k m : ℕ). Spans r (firsts r) (lasts r)) p.asks.ready.plate (plate-spans p.asks.ready.plate.plate (prepared p.asks.ready.plate.sound))

  ends : Ended (theirs n lines room) n
  ends = their-ends n lines room (of-plate (λ (r : List ℕ) (k m : ℕ). 1 ≤ m) p.asks.ready.plate p.asks.ready.plate.sound.positive) p.asks.ready.holds

  spells : Spells (theirs n lines room) n (Masked (IsSum rows) p.mask)
  spells =
      of-plate (λ (r : List ℕ) (k m : ℕ). Ended (theirs n lines room) m → Same (theirs n lines room) (ours r k) m 0 1 1
      → Spells (theirs n lines room) m (Masked (IsSum r) k)) p.asks.ready.plate
      (λ e s. found_right p.asks.ready.plate.sound (theirs n lines room) e s) ends p.right

  states-on : (t : ℕ) → t < n → Number (StateOn (theirs n lines room) n t) (count lines (first_test room t))
  states-on = states-counted rows p.mask n room lines p.asks.ready.plate p.asks.ready.holds p.asks.told p.right ends p.marks

  branches-on : (t : ℕ) → t < n → Number (BranchOn (theirs n lines room) n t) (count lines (used_test room t))
  branches-on = branches-counted rows p.mask n room lines p.asks.ready.plate p.asks.ready.holds p.asks.told p.right ends p.marks

  module _ (t : ℕ) (h : t < n) (c : Section) (e : c ≡ held (section_of rows t)) where
    pub own-states : 2 ^ c.live ≡ 2 ^ live_at rows t
    own-states = states-are p.asks.ready.plate t h c e

    pub own-branches : branch_count c ≡ 2 ^ active_at rows t
    own-branches = ap branch_count (section-is p.asks.ready.plate t h c e) ∙ (section-agrees rows spans t).branches

    -- none is negative
    pub states-enough : 2 ^ c.live ≤ count lines (first_test room t)
    states-enough = omega (arith, own-states, no-fewer-states (theirs n lines room) n rows p.mask (firsts rows) (lasts rows) spans spells t _ (omega (arith, h)) (states-on t h))

    pub branches-enough : branch_count c ≤ count lines (used_test room t)
    branches-enough = omega (arith, own-branches, no-fewer-branches (theirs n lines room) n rows p.mask (firsts rows) (lasts rows) spans spells t _ h (branches-on t h))

  -- ---- the loop

  -- the depths before t have their surplus
  pub record Filling (t : ℕ) (states branches : List ℕ) : Type 0 where
    pub within : t ≤ n
    pub depths : length states ≡ 65
    pub sections : length branches ≡ 64
    pub state : (i : ℕ) → i < t → Number (StateOn (theirs n lines room) n i) (2 ^ live_at rows i + get_or states i 0)
    pub branch : (i : ℕ) → i < t → Number (BranchOn (theirs n lines room) n i) (2 ^ active_at rows i + get_or branches i 0)
    pub no_state : (i : ℕ) → t ≤ i → get_or states i 0 ≡ 0
    pub no_branch : (i : ℕ) → t ≤ i → get_or branches i 0 ≡ 0

  pub filling-start : Filling 0 (replicate 65 0) (replicate 64 0)
  filling-start = record {
    within = omega arith;
    depths = refl;
    sections = refl;
    state = λ i l. absurd (omega arith);
    branch = λ i l. absurd (omega arith);
    no_state = λ i l. zeros-at 65 i;
    no_branch = λ i l. zeros-at 64 i;
  }

  pub filling-on : (t : ℕ) (states branches : List ℕ) → Filling t states branches → t < n → (c : Section) → c ≡ held (section_of rows t)
      → (w x y z s b : ℕ) → w ≡ 2 ^ c.live → x ≡ count lines (first_test room t) → w + s ≡ x → y ≡ branch_count c → z ≡ count lines (used_test room t) → y + b ≡ z
      → Filling (t + 1) (set states t s) (set branches t b)
  filling-on t states branches f h c e w x y z s b ew ex es ey ez eb = record {
    within = omega (arith, h);
    depths = length-set states t s ∙ f.depths;
    sections = length-set branches t b ∙ f.sections;
    state = λ i l. state i l (dec_lt i t);
    branch = λ i l. branch i l (dec_lt i t);
    no_state = λ i l. get_or-set_other states t i s 0 (λ q. omega (arith, q, l)) ∙ f.no_state i (omega (arith, l));
    no_branch = λ i l. get_or-set_other branches t i b 0 (λ q. omega (arith, q, l)) ∙ f.no_branch i (omega (arith, l));
  }
    where
      short : n ≤ 64
      short = p.asks.ready.holds.short

      state : (i : ℕ) → i < t + 1 → Dec (i < t) → Number (StateOn (theirs n lines room) n i) (2 ^ live_at rows i + get_or (set states t s) i 0)
      state i l (yes d) =
          subst (λ (k : ℕ). Number (StateOn (theirs n lines room) n i) (2 ^ live_at rows i + k)) (sym (get_or-set_other states t i s 0 (λ q. omega (arith, q, d)))) (f.state i d)
      state i l (no d) =
          let q : t ≡ i = omega arith in
          let g : get_or (set states t s) t 0 ≡ s = get_or-set_same states t s 0 (omega (arith, f.depths, h, short)) in
          let k : count lines (first_test room t) ≡ 2 ^ live_at rows t + get_or (set states t s) t 0 = omega (arith, g, es, ex, ew, own-states t h c e) in
          subst (λ (i : ℕ). Number (StateOn (theirs n lines room) n i) (2 ^ live_at rows i + get_or (set states t s) i 0)) q (subst (Number (StateOn (theirs n lines room) n t)) k (states-on t h))

      branch : (i : ℕ) → i < t + 1 → Dec (i < t) → Number (BranchOn (theirs n lines room) n i) (2 ^ active_at rows i + get_or (set branches t b) i 0)
      branch i l (yes d) =
          subst (λ (k : ℕ). Number (BranchOn (theirs n lines room) n i) (2 ^ active_at rows i + k)) (sym (get_or-set_other branches t i b 0 (λ q. omega (arith, q, d)))) (f.branch i d)
      branch i l (no d) =
          let q : t ≡ i = omega arith in
          let g : get_or (set branches t b) t 0 ≡ b = get_or-set_same branches t b 0 (omega (arith, f.sections, h, short)) in
          let k : count lines (used_test room t) ≡ 2 ^ active_at rows t + get_or (set branches t b) t 0 = omega (arith, g, eb, ez, ey, own-branches t h c e) in
          subst (λ (i : ℕ). Number (BranchOn (theirs n lines room) n i) (2 ^ active_at rows i + get_or (set branches t b) i 0)) q (subst (Number (BranchOn (theirs n lines room) n t)) k (branches-on t h))

  pub filling-end : (t : ℕ) (states branches : List ℕ) → Filling t states branches → t ≡ n → SurplusOver (theirs n lines room) n rows states branches
  filling-end t states branches f e = record {
    depths = f.depths;
    sections = f.sections;
    state = λ i l. state i l (dec_lt i n);
    branch = λ i l. f.branch i (omega (arith, l, e));
    no_depth = λ i l. f.no_state i (omega (arith, l, e));
    no_section = λ i l. f.no_branch i (omega (arith, l, e));
  }
    where
      state : (i : ℕ) → i ≤ n → Dec (i < n) → Number (StateOn (theirs n lines room) n i) (2 ^ live_at rows i + get_or states i 0)
      state i l (yes d) = f.state i (omega (arith, d, e))
      state i l (no d) =
          let q : n ≡ i = omega arith in
          let k : 1 ≡ 2 ^ live_at rows n + get_or states n 0 = omega (arith, end-states p.asks.ready.plate, f.no_state n (omega (arith, e))) in
          subst (λ (i : ℕ). Number (StateOn (theirs n lines room) n i) (2 ^ live_at rows i + get_or states i 0)) q
          (subst (Number (StateOn (theirs n lines room) n n)) k (end-counted (theirs n lines room) n p.mask ends.end ((spells.exact p.mask).0 (subst (IsSum rows) (sym (xor_self p.mask)) (in-zero rows))).1))
