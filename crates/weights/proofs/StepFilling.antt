-- One section: its numbers written place by place.
use lib.ListN.{get_or, length, length-set, set}
use lib.Seq.{get_or-set_other, get_or-set_same}
use mathlib.Core.List.{List}
use mathlib.Core.Logic.{inl, inr, ◌⊎◌}
use mathlib.Core.Path.{ap, ap₂, refl, subst, sym, ◌∙◌, ◌≡◌}
use native.Mathlib.Decide.{dec_lt}
use native.Mathlib.Omega.{arith}
use Prim.Native.Nat.{◌%◌, ◌*◌, ◌+◌, ◌/◌, ◌<◌, ◌^◌, zero-le, ℕ, ◌≤◌}
use Rattle.trellises.specs.declared.Section.{Section}
use Rattle.trellises.specs.Numbers.{branch_count, leads_to}
use Rattle.weights.proofs.BranchWays.{leaving-same}
use Rattle.weights.specs.Tallying.{StateFits, StepFits, Stepped, olds}
use Rattle.weights.specs.Ways.{leaving}

-- the first p numbers are written, and those of the next depth stand as they were
pub record Filling (working : List ℕ) (from to : ℕ) (c : Section) (next p : ℕ) (working' : List ℕ) : Type 0 where
  pub within : p ≤ 2 ^ c.live * 65
  pub size : length working' ≡ length working
  pub done : (q : ℕ) → q < p → get_or working' (to + q) 0 ≡ leaving c (olds working from) (q / 65) (q % 65)
  pub kept : (j : ℕ) → from ≤ j → j < from + next * 65 → get_or working' j 0 ≡ get_or working j 0

module _ (working : List ℕ) (from to : ℕ) (c : Section) (f : StepFits working from to c) where
  pub filling-none : Filling working from to c f.next 0 working
  filling-none = record { within = zero-le; size = refl; done = λ q h. absurd (omega arith); kept = λ j a b. refl }

  module _ (working' : List ℕ) (p : ℕ) (k : Filling working from to c f.next p working') where
    same_old : (x v : ℕ) → x < branch_count c → v < 65 → olds working' from (leads_to c x) v ≡ olds working from (leads_to c x) v
    same_old x v l h = k.kept (from + leads_to c x * 65 + v) (omega arith) (omega (arith, f.leads x l))

    -- what is read is what stood there at first
    pub same-leaving : (i w : ℕ) → i < 2 ^ c.live → w < 65 → leaving c (olds working' from) i w ≡ leaving c (olds working from) i w
    same-leaving = leaving-same c (olds working' from) (olds working from) 65 same_old

    module _ (h : p < 2 ^ c.live * 65) where
      pub state-there : p / 65 < 2 ^ c.live
      state-there = omega arith

      pub state-fits : StateFits working' from c (p / 65) (p % 65)
      state-fits = record {
        section = f.section;
        state = state-there;
        weight = omega arith;
        small = omega (arith, f.old_room, f.small);
        room = λ x l. omega (arith, f.leads x l, f.old_room, k.size);
        most = let same = same-leaving (p / 65) (p % 65) state-there (omega arith) in
            subst (λ (m : ℕ). m < 2 ^ 64) (sym same) (f.most (p / 65) (p % 65) state-there (omega arith));
      }

      pub place-there : to + p < length working'
      place-there = omega (arith, f.new_room, k.size)

      apart : (j : ℕ) → from ≤ j → j < from + f.next * 65 → j ≡ to + p → ⊥
      apart j a b e = go f.apart
        where
          go : (from + f.next * 65 ≤ to) ⊎ (to + 2 ^ c.live * 65 ≤ from) → ⊥
          go (inl x) = omega arith
          go (inr x) = omega arith

      pub filling-more : (v : ℕ) → v ≡ leaving c (olds working' from) (p / 65) (p % 65) → Filling working from to c f.next (p + 1) (set working' (to + p) v)
      filling-more v e = record {
        within = omega arith;
        size = length-set working' (to + p) v ∙ k.size;
        done = λ q l. written q l (dec_lt q p);
        kept = λ j a b. get_or-set_other working' (to + p) j v 0 (apart j a b) ∙ k.kept j a b;
      }
        where
          written : (q : ℕ) → q < p + 1 → Dec (q < p) → get_or (set working' (to + p) v) (to + q) 0 ≡ leaving c (olds working from) (q / 65) (q % 65)
          written q l (yes b) = get_or-set_other working' (to + p) (to + q) v 0 (λ z. omega arith) ∙ k.done q b
          written q l (no b) =
              let z : p ≡ q = omega arith in
              subst (λ (q : ℕ). get_or (set working' (to + p) v) (to + q) 0 ≡ leaving c (olds working from) (q / 65) (q % 65)) z
              (get_or-set_same working' (to + p) v 0 place-there ∙ e ∙ same-leaving (p / 65) (p % 65) state-there (omega arith))

    pub filling-all : 2 ^ c.live * 65 ≤ p → Stepped working from to c working'
    filling-all h = record {
      size = k.size;
      here = λ i w hi hw.
          (let a : to + i * 65 + w ≡ to + (i * 65 + w) = omega arith in
          let d : (i * 65 + w) / 65 ≡ i = omega arith in
          let r : (i * 65 + w) % 65 ≡ w = omega arith in
          ap (λ (j : ℕ). get_or working' j 0) a ∙ k.done (i * 65 + w) (omega arith) ∙ ap₂ (leaving c (olds working from)) d r);
    }
