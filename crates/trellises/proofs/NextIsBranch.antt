-- The reply by a section's numbers is the trellis's: the next state, no branch, or refusal 12.
use Rattle.std.proofs.Common.{Ok, Err, Some, None}
use borrow.Author.Tests.{eqb-false, eqb-true}
use lib.Bits.{bit_xor}
use lib.Dec.{eqb}
use mathlib.Core.Bool.{Bool, cond, false, false≢true, true}
use mathlib.Core.Logic.{inl, inr, ◌⊎◌}
use mathlib.Core.Path.{ap, refl, subst, sym, ◌∙◌, ◌≡◌}
use native.Mathlib.Omega.{arith}
use Prim.Native.Nat.{◌+◌, ◌<◌, ◌^◌, ℕ, ◌≤◌}
use Rattle.plates.proofs.SoundIsPrepared.{prepared, used-rows}
use Rattle.plates.specs.declared.Plate.{Plate}
use Rattle.plates.specs.declared.Refusal.{Refusal}
use Rattle.plates.specs.declared.Refusal.TheVariants.{NoSuchBranch}
use Rattle.plates.specs.Prepare.{not_prepared, rows_of}
use Rattle.plates.specs.Profile.{live_at}
use Rattle.plates.specs.Refusals.{Passes}
use Rattle.plates.specs.Sound.{Sound}
use Rattle.trellises.proofs.HeldSection.{held_whole}
use Rattle.trellises.proofs.MaskedGraph.{has-off, has_on, turned-digit, turned-twice, turned-xor}
use Rattle.trellises.proofs.SectionAgrees.{Agrees, live-count, section-agrees}
use Rattle.trellises.proofs.SectionBranches.{Numbered, below-high, below-low, has-number, leaves-high, leaves-low, leaving-is, number-has, other-bit}
use Rattle.trellises.proofs.SectionFits.{begun, ending-at-most, few-active, narrow}
use Rattle.trellises.specs.Branching.{Branches, branch_conditions, code_trellis, trellis_of}
use Rattle.trellises.specs.declared.Section.{Section}
use Rattle.trellises.specs.Following.{next_of}
use Rattle.trellises.specs.Graph.{Has}
use Rattle.trellises.specs.Masking.{turned}
use Rattle.trellises.specs.Numbers.{bit_of, branch_count, leads_to, leaves}
use Rattle.trellises.specs.SectionOf.{held, section_of}
use Rattle.words.proofs.Word.{bit-lt}
use Rattle.words.specs.Word.{bit}

-- the section that the code finds of a sound plate
module _ {plate : Plate} (s : Sound plate) (depth : ℕ) (h : depth < plate.n) (c : Section) (e : c ≡ held (section_of (rows_of plate) depth)) where
  pub found : c ≡ section_of (rows_of plate) depth
  found = e ∙ held_whole (rows_of plate) depth (omega (arith, used-rows plate s.few s.table, s.few))

  pub found-live : (c.live ≡ live_at (rows_of plate) depth) × (c.live ≤ 12)
  found-live =
      let l : c.live ≡ (section_of (rows_of plate) depth).live = ap (λ (z : Section). z.live) found in
      (l ∙ live-count depth (rows_of plate), omega (arith, narrow s depth (omega arith)))

  pub found-ending : c.ending < 64
  found-ending =
      let l : c.ending ≡ (section_of (rows_of plate) depth).ending = ap (λ (z : Section). z.ending) found in
      omega (arith, ending-at-most depth (rows_of plate), few-active s depth (omega arith), narrow s depth (omega arith))

module _ (plate : Plate) (s : Sound plate) (depth state asked : ℕ) where
  -- refusal 5 is passed
  not_five : (q : Refusal) → not_prepared plate q → ⊥
  not_five q x = x.0 (prepared s)

  pub refused-twelve : (plate.n ≤ depth) ⊎ ((2 ^ live_at (rows_of plate) depth ≤ state) ⊎ (1 < asked)) → Branches plate depth state asked (Err NoSuchBranch)
  refused-twelve h = inr (not_five, inl (h, refl))

  module _ (h : depth < plate.n) (present : state < 2 ^ live_at (rows_of plate) depth) (small : asked ≤ 1) where
    abbrev c : Section
    c = section_of (rows_of plate) depth

    agrees : Agrees (rows_of plate) depth c
    agrees = section-agrees (rows_of plate) s.reduced.spans depth

    there : state < 2 ^ c.live
    there = subst (λ (n : ℕ). state < 2 ^ n) (sym agrees.states) present

    pass : Passes (branch_conditions plate depth state asked)
    pass = (not_five, ((λ q x. none x.0), tt))
      where
        none : (plate.n ≤ depth) ⊎ ((2 ^ live_at (rows_of plate) depth ≤ state) ⊎ (1 < asked)) → ⊥
        none (inl x) = omega arith
        none (inr (inl x)) = omega arith
        none (inr (inr x)) = omega arith

    -- the bit of the code's branch
    abbrev own : ℕ
    own = turned (bit plate.mask depth) asked

    -- a branch number that leaves the state with that bit answers
    answer : (x : ℕ) → x < branch_count c → leaves c x ≡ state → bit_of c x ≡ turned (bit plate.mask depth) asked
        → Branches plate depth state asked (Ok (Some (leads_to c x)))
    answer x l a b =
        let h = has_on plate.mask (code_trellis plate)
        (number-has (rows_of plate) depth c agrees state own (leads_to c x) (record { number = x; below = l; leaving = a; spells = b; leads = refl })) in
        (pass, subst (λ (d : ℕ). Has (trellis_of plate) depth state d (leads_to c x)) (turned-twice (bit plate.mask depth) asked) h)

    -- where none begins and its own number has the other bit, there is none
    no_answer : (bit_of c state ≡ turned (bit plate.mask depth) asked → ⊥) → c.begins ≡ false → Branches plate depth state asked (Ok None)
    no_answer n e = (pass, λ next x. none (has-number (rows_of plate) depth c agrees state own next (has-off plate.mask (code_trellis plate) x)))
      where
        none : {next : ℕ} → Numbered c state (turned (bit plate.mask depth) asked) next → ⊥
        none m = go (leaving-is c state there m.number m.below m.leaving)
          where
            go : (m.number ≡ state) ⊎ ((c.begins ≡ true) × (m.number ≡ state + 2 ^ c.live)) → ⊥
            go (inl q) = n (ap (bit_of c) (sym q) ∙ m.spells)
            go (inr q) = false≢true (sym e ∙ q.0)

    pub next-branches : Branches plate depth state asked (Ok (next_of (section_of (rows_of plate) depth) state (bit_xor asked (bit plate.mask depth))))
    next-branches =
        subst (λ (d : ℕ). Branches plate depth state asked (Ok (next_of c state d))) (turned-xor (bit plate.mask depth) asked (bit-lt depth plate.mask) small)
        (go (eqb (bit_of c state) own) c.begins refl refl)
      where
        digit : own < 2
        digit = turned-digit (bit plate.mask depth) asked small

        go : (x b : Bool) → eqb (bit_of c state) own ≡ x → c.begins ≡ b
            → Branches plate depth state asked (Ok (cond x (Some (leads_to c state)) (cond b (Some (leads_to c (state + 2 ^ c.live))) None)))
        go true b e f = answer state (below-low c state there) (leaves-low c state there) (eqb-true (bit_of c state) own e)
        go false true e f =
            answer (state + 2 ^ c.live) (below-high c state there f) (leaves-high c state there)
            (other-bit c state there (begun s depth (omega arith) f) ∙ omega (arith, eqb-false (bit_of c state) own e, digit))
        go false false e f = no_answer (eqb-false (bit_of c state) own e) f
