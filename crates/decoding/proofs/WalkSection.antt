-- One section of the walk: the decided bit and the branch that has it carry the walk one depth on.
use lib.Bits.{bit_or, bit_xor, or_shifted_r}
use lib.Dec.{eqb}
use lib.IntN.{pos, ℤ}
use lib.ListN.{drop, get_or, length, length-take, take}
use lib.Pow.{pow_mono, pow_pos}
use lib.Seq.{drop-cons}
use mathlib.Core.Bool.{Bool, cond, false, true}
use mathlib.Core.List.{List, ◌∷◌}
use mathlib.Core.Path.{ap, ap₂, refl, subst, sym, ◌∙◌, ◌≡◌}
use native.Mathlib.Nat.{le_trans, mod-eq_of_lt, mul-add, mul_assoc, mul_comm, mul-le-mul_left, mul-le-mul_right, pow-suc, suc-mul}
use native.Mathlib.Omega.{arith}
use Prim.Native.Nat.{◌%◌, ◌*◌, ◌+◌, ◌-◌, ◌/◌, ◌<◌, ◌^◌, suc, zero, ℕ, ◌≤◌}
use Rattle.decoding.proofs.BegunRows.{begun-few, begun-next}
use Rattle.decoding.proofs.BestWay.{choice}
use Rattle.decoding.proofs.Leaving.{BestBranch}
use Rattle.decoding.proofs.LiveMarks.{with-ending}
use Rattle.decoding.proofs.MarkCounts.{leads-by, live-behind}
use Rattle.decoding.proofs.TakenRows.{branch-is, next-some, taken-on}
use Rattle.decoding.specs.Backward.{best, branch_by, decided, follow, word_from}
use Rattle.decoding.specs.declared.sweep.Sizes.{Sizes}
use Rattle.decoding.specs.declared.walk.Walk.{Walk}
use Rattle.decoding.specs.LiveRows.{Taken, active_marks, beginning_row, begun_before, ending_count, leads_by, live_marks, mark_of}
use Rattle.decoding.specs.Stepping.{SectionFits}
use Rattle.decoding.specs.Sweeping.{BeforeWalk, Walked}
use Rattle.trellises.specs.declared.Section.{Section}
use Rattle.trellises.specs.Numbers.{bit_of, branch_count, leads_to}
use Rattle.trellises.specs.SectionOf.{section_of}
use Rattle.words.proofs.Word.{bit-lt}
use Rattle.words.specs.Choice.{more}
use Rattle.words.specs.Word.{bit}

-- the new position stands above the old ones, and below those to come
arrange : (w P W d : ℕ) → w + P * (W * 2 + d) ≡ d * P + w + P * 2 * W
arrange w P W d =
    let a : P * (W * 2 + d) ≡ P * (W * 2) + P * d = mul-add P (W * 2) d in
    let b : P * (W * 2) ≡ P * W * 2 = sym (mul_assoc P W 2) in
    let e : P * 2 * W ≡ P * W * 2 = mul_assoc P 2 W ∙ ap (λ (x : ℕ). P * x) (mul_comm 2 W) ∙ sym (mul_assoc P W 2) in
    omega (arith, a, b, e, mul_comm P d)

module _ (table : List ℕ) (z : Sizes) (ends : List ℕ) (samples : List ℤ) (decisions : List ℕ) (t : ℕ) (w : Walk) (b : BeforeWalk table z ends samples decisions t w) where
  abbrev sections : ℕ → Section
  sections = section_of (take z.k table)

  abbrev sample : ℤ
  sample = get_or samples t (pos 0)

  abbrev behind : List ℤ
  behind = drop (suc t) samples

  samples-split : drop t samples ≡ sample ∷ behind
  samples-split = drop-cons samples t (pos 0) (omega (arith, b.size, b.depth))

  pub walk-begin-small : t * z.words ≤ 4096
  walk-begin-small =
      let k : t ≤ 64 = omega (arith, b.depth, b.fit.short) in
      le_trans (mul-le-mul_left t b.fit.words_small) (mul-le-mul_right 64 k)

  pub state_small : w.state < 4096
  state_small = omega (arith, b.walked.state, b.fit.half_room t (omega (arith, b.depth)), b.fit.half_small)

  pub decision-there : t * z.words + w.state / 64 < length decisions
  decision-there =
      let k : t * z.words + z.words ≤ length decisions = omega (arith, b.room, mul-le-mul_right z.words b.depth, suc-mul t z.words) in
      omega (arith, b.walked.state, b.fit.words_room b.wanted t b.depth)

  pub section-fits : SectionFits (section_of (take z.k table) t)
  section-fits = b.fit.chain.fits t b.depth

  pub live-few : w.count ≤ 12
  live-few = omega (arith, b.walked.count, section-fits.narrow)

  pub next-few : w.next ≤ 64
  next-few = omega (arith, b.walked.next, begun-few t (take z.k table), length-take z.k table, b.fit.plate.few)

  -- so many rows, and one more where a row begins
  and-row : (row : ℕ) → row ≡ beginning_row (take z.k table) t → (n : ℕ) → cond (eqb row 0) n (suc n) ≡ more (section_of (take z.k table) t).begins n
  and-row row e n = ap (λ (y : ℕ). cond (eqb y 0) n (suc n)) e ∙ go (sections t).begins refl
    where
      go : (g : Bool) → (section_of (take z.k table) t).begins ≡ g
          → cond (eqb (cond g (get_or (take z.k table) (begun_before (take z.k table) t) 0) 0) 0) n (suc n) ≡ more g n
      go true g = ap (λ (y : Bool). cond y n (suc n)) (next-some (take z.k table) b.fit.plate.spans t g)
      go false g = refl

  -- so many rows are active in section t
  active-number : (row : ℕ) → row ≡ beginning_row (take z.k table) t
      → cond (eqb row 0) w.count (suc w.count) ≡ more (section_of (take z.k table) t).begins (section_of (take z.k table) t).live
  active-number row e = and-row row e w.count ∙ ap (more (sections t).begins) b.walked.count

  -- the row that ends is one of them
  pub ending-counted : (row : ℕ) → row ≡ beginning_row (take z.k table) t → ending_count (get_or ends t 0) ≤ cond (eqb row 0) w.count (suc w.count)
  ending-counted row e =
      omega (arith, active-number row e, live-behind (take z.k table) b.fit.plate.spans ends t b.ends_are (omega (arith, b.depth, b.fit.short)))

  -- the rows that are active in section t, and the mark of the one that ends
  module _ (mark : ℕ) (m : live_marks (take z.k table) t + mark ≡ active_marks (take z.k table) t) where
    pub active-is : w.live + mark ≡ active_marks (take z.k table) t
    active-is = ap (λ (l : ℕ). l + mark) b.walked.live ∙ m

    pub ended-among : {ended : ℕ} → ended ≡ mark_of (get_or ends t 0) → ended ≤ w.live + mark
    ended-among e =
        omega (arith, active-is, e, with-ending (take z.k table) b.fit.plate.spans ends t b.ends_are (omega (arith, b.depth, b.fit.short)))

  -- the branch chosen
  abbrev chosen-branch : (x : ℕ) × BestBranch (section_of (take z.k table) t) (b.fit.chain.fits t b.depth) w.state b.walked.state sample (best (section_of (take z.k table)) behind (suc t)) x
  chosen-branch = choice sections z.n b.fit.chain sample behind t w.state b.depth b.walked.state

  -- the bit as the code has it
  module _ (d : ℕ) (d-is : d ≡ bit (get_or decisions (t * z.words + w.state / 64) 0) (w.state % 64)) where
    bit-decided : d ≡ decided (section_of (take z.k table)) sample behind t w.state
    bit-decided = d-is ∙ b.decision w.state b.walked.state

    bit-chosen : d ≡ bit_of (section_of (take z.k table) t) chosen-branch.0
    bit-chosen = bit-decided ∙ chosen-branch.1.bit_is

    by-chosen : branch_by (section_of (take z.k table) t) w.state d ≡ chosen-branch.0
    by-chosen = ap (branch_by (sections t) w.state) bit-chosen ∙ chosen-branch.1.by

    pub branch-there : branch_by (section_of (take z.k table) t) w.state d < branch_count (section_of (take z.k table) t)
    branch-there = subst (λ (x : ℕ). x < branch_count (sections t)) (sym by-chosen) chosen-branch.1.below

    pub next-inside : follow (section_of (take z.k table) t) w.state d < 2 ^ (section_of (take z.k table) (suc t)).live
    next-inside = b.fit.chain.leads t b.depth (branch_by (sections t) w.state d) branch-there

    two : d < 2
    two = subst (λ (x : ℕ). x < 2) (sym d-is) (bit-lt (w.state % 64) _)

    weight : d * 2 ^ t % 2 ^ 64 ≡ d * 2 ^ t
    weight = mod-eq_of_lt (go d two)
      where
        low : 2 ^ suc t ≤ 2 ^ 64
        low = let k : suc t ≤ 64 = omega (arith, b.depth, b.fit.short) in pow_mono k

        go : (d : ℕ) → d < 2 → d * 2 ^ t < 2 ^ 64
        go zero h = omega arith
        go (suc zero) h = omega (arith, low, pow-suc 2 t, pow_pos t)
        go (suc (suc d)) h = absurd (omega arith)

    word-now : bit_or w.word (d * 2 ^ t % 2 ^ 64) ≡ d * 2 ^ t + w.word
    word-now = ap (bit_or w.word) weight ∙ or_shifted_r d t w.word b.walked.short

    short-now : d * 2 ^ t + w.word < 2 ^ suc t
    short-now = go d two
      where
        go : (d : ℕ) → d < 2 → d * 2 ^ t + w.word < 2 ^ suc t
        go zero h = omega (arith, b.walked.short, pow-suc 2 t)
        go (suc zero) h = omega (arith, b.walked.short, pow-suc 2 t)
        go (suc (suc d)) h = absurd (omega arith)

    word-here : word_from (section_of (take z.k table)) (drop t samples) t w.state
        ≡ word_from (section_of (take z.k table)) behind (suc t) (follow (section_of (take z.k table) t) w.state d) * 2 + d
    word-here =
        ap (λ (ys : List ℤ). word_from sections ys t w.state) samples-split
        ∙ ap (λ (x : ℕ). word_from sections behind (suc t) (follow (sections t) w.state x) * 2 + x) (sym bit-decided)

    rest-now : d * 2 ^ t + w.word + 2 ^ suc t * word_from (section_of (take z.k table)) behind (suc t) (follow (section_of (take z.k table) t) w.state d)
        ≡ word_from (section_of (take z.k table)) samples 0 0
    rest-now =
        ap (λ (x : ℕ). d * 2 ^ t + w.word + x * word_from sections behind (suc t) (follow (sections t) w.state d)) (pow-suc 2 t)
        ∙ sym (arrange w.word (2 ^ t) (word_from sections behind (suc t) (follow (sections t) w.state d)) d)
        ∙ ap (λ (x : ℕ). w.word + 2 ^ t * x) (sym word-here) ∙ b.walked.rest

    -- the row taken, as the code has it
    module _ (row : ℕ) (row_is : row ≡ beginning_row (take z.k table) t) (r : ℕ) (r-is : r ≡ cond (eqb (bit w.sum t) d) 0 row) where
      abbrev plate : List ℕ
      plate = take z.k table

      taken_is : r ≡ cond (eqb (bit w.sum t) d) 0 (beginning_row (take z.k table) t)
      taken_is = r-is ∙ ap (cond (eqb (bit w.sum t) d) 0) row_is

      -- the branch, as the code has it
      module _ (x : ℕ) (x-is : x ≡ cond (eqb r 0) w.state (w.state + 2 ^ w.count)) where
        pub branch_by_lem : x ≡ branch_by (section_of (take z.k table) t) w.state d
        branch_by_lem =
            x-is ∙ ap₂ (λ (y n : ℕ). cond (eqb y 0) w.state (w.state + 2 ^ n)) taken_is b.walked.count
            ∙ branch-is plate b.fit.plate.spans t b.walked.taken d

        -- behind the section
        pub walked_on : (active following state' live' mark count' next' : ℕ) → active ≡ active_marks (take z.k table) t → following ≡ get_or ends t 0
            → state' ≡ leads_by active following x → mark ≡ mark_of following → live' + mark ≡ active
            → count' ≡ cond (eqb row 0) w.count (suc w.count) - ending_count following → next' ≡ cond (eqb row 0) w.next (suc w.next)
            → Walked (take z.k table) samples (suc t)
            (record { word = bit_or w.word (d * 2 ^ t % 2 ^ 64); sum = bit_xor w.sum r; state = state'; live = live'; count = count'; next = next' })
        walked_on active following state' live' mark count' next' a f e m l o n =
            let h : t < 64 = omega (arith, b.depth, b.fit.short) in
            let s : state' ≡ follow (sections t) w.state d =
            e ∙ ap₂ (λ (p q : ℕ). leads_by p q x) a f ∙ leads-by plate b.fit.plate.spans ends t b.ends_are h x ∙ ap (leads_to (sections t)) branch_by_lem in
            record {
              state = subst (λ (x : ℕ). x < 2 ^ (sections (suc t)).live) (sym s) next-inside;
              short = subst (λ (x : ℕ). x < 2 ^ suc t) (sym word-now) short-now;
              rest = ap₂ (λ (x y : ℕ). x + 2 ^ suc t * word_from sections behind (suc t) y) word-now s ∙ rest-now;
              taken = subst (Taken plate (suc t) (bit_xor w.sum r)) (sym s)
                  (subst (λ (y : ℕ). Taken plate (suc t) (bit_xor w.sum y) (follow (sections t) w.state d)) (sym taken_is)
                  (taken-on plate b.fit.plate.spans t b.walked.taken d));
              live = omega (arith, l, a, m, ap mark_of f, with-ending plate b.fit.plate.spans ends t b.ends_are h);
              count = omega (arith, o, ap ending_count f, active-number row row_is, live-behind plate b.fit.plate.spans ends t b.ends_are h);
              next = n ∙ and-row row row_is w.next ∙ ap (more (sections t).begins) b.walked.next ∙ sym (begun-next plate b.fit.plate.spans t);
            }
