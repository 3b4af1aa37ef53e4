-- All sections: from one depth to the next, the numbers in the room are the ways to the end.
use lib.ListN.{get_or, get_or-replicate, length, length-replicate, length-set, replicate, set}
use lib.Seq.{get_or-set_other, get_or-set_same}
use mathlib.Core.List.{List}
use mathlib.Core.Logic.{inl, inr, ◌⊎◌}
use mathlib.Core.Path.{ap, refl, subst, sym, ◌∙◌, ◌≡◌}
use native.Mathlib.Omega.{arith}
use Prim.Native.Nat.{◌*◌, ◌+◌, ◌-◌, ◌<◌, ◌^◌, suc, zero, ℕ, ◌≤◌}
use Rattle.trellises.proofs.HeldSection.{held_whole}
use Rattle.trellises.specs.declared.Section.{Section}
use Rattle.trellises.specs.SectionOf.{held, section_of}
use Rattle.weights.proofs.BranchWays.{leaving-same}
use Rattle.weights.specs.Rooms.{Copied}
use Rattle.weights.specs.Tallying.{Counted, StepFits, Stepped, Swept, TallyFits, olds}
use Rattle.weights.specs.Ways.{ended, leaving, ways}

module _ (rows : List ℕ) (n half : ℕ) (working : List ℕ) (f : TallyFits rows n half working) where
  some-half : 65 ≤ half
  some-half = omega (arith, f.room n (omega arith), ap (λ (x : ℕ). 2 ^ x) f.end)

  -- ---- the far end

  module _ (zeroed : List ℕ) (e : zeroed ≡ replicate (length working) 0) where
    zeroed-size : length zeroed ≡ half + half
    zeroed-size = ap length e ∙ length-replicate (length working) 0 ∙ f.size

    pub start-there : 0 < length zeroed
    start-there = omega (arith, zeroed-size, some-half)

    at-end : (w : ℕ) → w < 65 → get_or (set zeroed 0 1) w 0 ≡ ended w
    at-end zero h = get_or-set_same zeroed 0 1 0 start-there
    at-end (suc w) h =
        get_or-set_other zeroed 0 (suc w) 1 0 (λ q. omega arith) ∙ ap (λ (l : List ℕ). get_or l (suc w) 0) e
        ∙ get_or-replicate (length working) (suc w) 0 0 (omega (arith, f.size, some-half))

    pub swept-start : Swept rows n half n (set zeroed 0 1) 0
    swept-start = record {
      size = length-set zeroed 0 1 ∙ zeroed-size;
      either = inl refl;
      here = λ i w hi hw.
          (let z : i ≡ 0 = omega (arith, hi, ap (λ (x : ℕ). 2 ^ x) f.end) in
          let a : 0 + i * 65 + w ≡ w = omega arith in
          let d : n - n ≡ 0 = omega arith in
          ap (λ (j : ℕ). get_or (set zeroed 0 1) j 0) a ∙ at-end w hw ∙ sym (ap (λ (d : ℕ). ways (section_of rows) d n i w) d));
    }

  -- ---- from depth t + 1 to depth t

  module _ (t : ℕ) (h : t < n) (room : List ℕ) (from : ℕ) (s : Swept rows n half (suc t) room from) (c : Section) (e : c ≡ held (section_of rows t)) where
    pub whole : c ≡ section_of rows t
    whole = e ∙ held_whole rows t f.few

    -- the numbers that stand give those of this depth
    leaving-ways : (i w : ℕ) → i < 2 ^ (section_of rows t).live → w < 65
        → leaving (section_of rows t) (olds room from) i w ≡ ways (section_of rows) (suc (n - suc t)) t i w
    leaving-ways = leaving-same (section_of rows t) (olds room from) (ways (section_of rows) (n - suc t) (suc t)) 65
        (λ x v l k. s.here _ v (f.chain.leads t h x l) k)

    pub from-within : from ≤ half
    from-within = go s.either
      where
        go : (from ≡ 0) ⊎ (from ≡ half) → from ≤ half
        go (inl q) = omega arith
        go (inr q) = omega arith

    step-fits-own : StepFits room from (half - from) (section_of rows t)
    step-fits-own = record {
      section = f.chain.fits t h;
      next = 2 ^ (section_of rows (suc t)).live;
      leads = f.chain.leads t h;
      apart = go s.either;
      old_room = omega (arith, from-within, f.room (suc t) h, s.size);
      new_room = omega (arith, f.room t (omega arith), s.size);
      small = omega (arith, s.size, f.small);
      most = λ i w hi hw. subst (λ (m : ℕ). m < 2 ^ 64) (sym (leaving-ways i w hi hw)) (f.most (suc (n - suc t)) t i w (omega arith));
    }
      where
        go : (from ≡ 0) ⊎ (from ≡ half)
            → (from + 2 ^ (section_of rows (suc t)).live * 65 ≤ half - from) ⊎ (half - from + 2 ^ (section_of rows t).live * 65 ≤ from)
        go (inl q) = inl (omega (arith, q, f.room (suc t) h))
        go (inr q) = inr (omega (arith, q, f.room t (omega arith)))

    pub step_fits : StepFits room from (half - from) c
    step_fits = subst (StepFits room from (half - from)) (sym whole) step-fits-own

    pub swept-on : (room' : List ℕ) → Stepped room from (half - from) c room' → Swept rows n half t room' (half - from)
    swept-on room' p = go (subst (λ (c : Section). Stepped room from (half - from) c room') whole p)
      where
        other : (from ≡ 0) ⊎ (from ≡ half) → (half - from ≡ 0) ⊎ (half - from ≡ half)
        other (inl q) = inr (omega arith)
        other (inr q) = inl (omega arith)

        go : Stepped room from (half - from) (section_of rows t) room' → Swept rows n half t room' (half - from)
        go p = record {
          size = p.size ∙ s.size;
          either = other s.either;
          here = λ i w hi hw.
              (let d : suc (n - suc t) ≡ n - t = omega arith in
              p.here i w hi hw ∙ leaving-ways i w hi hw ∙ ap (λ (d : ℕ). ways (section_of rows) d t i w) d);
        }

  -- ---- the start

  module _ (room : List ℕ) (from : ℕ) (s : Swept rows n half 0 room from) (one : 0 < 2 ^ (section_of rows 0).live) where
    pub start-room : from + 65 ≤ length room
    start-room = go s.either
      where
        go : (from ≡ 0) ⊎ (from ≡ half) → from + 65 ≤ length room
        go (inl q) = omega (arith, s.size, some-half)
        go (inr q) = omega (arith, s.size, some-half)

    pub counted : (counts counts' : List ℕ) → Copied room from counts 65 counts' → Counted rows n counts counts'
    counted counts counts' k = record {
      size = k.size;
      here = λ w h.
          (let a : from + w ≡ from + 0 * 65 + w = omega arith in
          let z : n - 0 ≡ n = omega arith in
          k.here w h ∙ ap (λ (j : ℕ). get_or room j 0) a ∙ s.here 0 w one h ∙ ap (λ (d : ℕ). ways (section_of rows) d 0 0 w) z);
      behind = k.behind;
    }
