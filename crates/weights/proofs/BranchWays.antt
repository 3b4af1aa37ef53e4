-- The ways that begin with a branch, and at a state, as the code reads them from the room.
use lib.ListN.{get_or}
use mathlib.Core.Bool.{Bool, cond, false, true}
use mathlib.Core.List.{List}
use mathlib.Core.Path.{ap, ap₂, refl, subst, sym, ◌∙◌, ◌≡◌}
use native.Mathlib.Omega.{arith}
use Prim.Native.Nat.{◌*◌, ◌+◌, ◌-◌, ◌<◌, ◌^◌, suc, zero, ℕ, ◌≤◌}
use Rattle.decoding.proofs.Targets.{branch-lt}
use Rattle.trellises.proofs.SectionBranches.{below-high, below-low}
use Rattle.trellises.specs.declared.Section.{Section}
use Rattle.trellises.specs.Numbers.{bit_of, branch_count, leads_to}
use Rattle.weights.specs.Tallying.{BranchFits, StateFits, olds}
use Rattle.weights.specs.Ways.{along, leaving, shifted}

-- numbers moved up by a bit that is not 0
moved_none : (b : ℕ) (F : ℕ → ℕ) (w : ℕ) → (b ≡ 0 → ⊥) → w ≡ 0 → 0 ≡ shifted b F w
moved_none zero F w n e = absurd (n refl)
moved_none (suc b) F zero n e = refl
moved_none (suc b) F (suc w) n e = absurd (omega arith)

moved : (b : ℕ) (F : ℕ → ℕ) (w : ℕ) → (b ≡ 0 → ⊥) → (w ≡ 0 → ⊥) → F (w - 1) ≡ shifted b F w
moved zero F w n e = absurd (n refl)
moved (suc b) F zero n e = absurd (e refl)
moved (suc b) F (suc w) n e = let q : suc w - 1 ≡ w = omega arith in ap F q

module _ (working : List ℕ) (from : ℕ) (c : Section) (x w : ℕ) (r b : ℕ) (leads : r ≡ leads_to c x) (spells : b ≡ bit_of c x) where
  pub by_zero : b ≡ 0 → get_or working (from + r * 65 + w) 0 ≡ along c (olds working from) x w
  by_zero e =
      ap (λ (s : ℕ). get_or working (from + s * 65 + w) 0) leads ∙ ap (λ (d : ℕ). shifted d (olds working from (leads_to c x)) w) (sym e ∙ spells)

  pub by-none : (b ≡ 0 → ⊥) → w ≡ 0 → 0 ≡ along c (olds working from) x w
  by-none n e = moved_none (bit_of c x) (olds working from (leads_to c x)) w (λ q. n (spells ∙ q)) e

  pub by_one : (b ≡ 0 → ⊥) → (w ≡ 0 → ⊥) → get_or working (from + r * 65 + w - 1) 0 ≡ along c (olds working from) x w
  by_one n e =
      let q : from + r * 65 + w - 1 ≡ from + r * 65 + (w - 1) = omega arith in
      ap (λ (i : ℕ). get_or working i 0) q ∙ ap (λ (s : ℕ). get_or working (from + s * 65 + (w - 1)) 0) leads
      ∙ moved (bit_of c x) (olds working from (leads_to c x)) w (λ q. n (spells ∙ q)) e

module _ {working : List ℕ} {from : ℕ} {c : Section} {i w : ℕ} (f : StateFits working from c i w) where
  branch_fits : (x : ℕ) → x < branch_count c → BranchFits working from c x w
  branch_fits x l = record { section = f.section; number = branch-lt c f.section x l; weight = f.weight; small = f.small; room = f.room x l }

  pub first_fits : BranchFits working from c i w
  first_fits = branch_fits i (below-low c i f.state)

  pub other_fits : (y p : ℕ) → p ≡ 2 ^ c.live → y ≡ i + p → c.begins ≡ true → BranchFits working from c y w
  other_fits y p e q b =
      let z : y ≡ i + 2 ^ c.live = q ∙ ap (λ (p : ℕ). i + p) e in
      subst (λ (x : ℕ). BranchFits working from c x w) (sym z) (branch_fits (i + 2 ^ c.live) (below-high c i f.state b))

  pub both-are : {a o y p : ℕ} → c.begins ≡ true → p ≡ 2 ^ c.live → y ≡ i + p → a ≡ along c (olds working from) i w → o ≡ along c (olds working from) y w
      → a + o ≡ leaving c (olds working from) i w
  both-are b e q ea eo =
      ap₂ ◌+◌ ea (eo ∙ ap (λ (x : ℕ). along c (olds working from) x w) (q ∙ ap (λ (p : ℕ). i + p) e))
      ∙ ap (λ (t : Bool). cond t (along c (olds working from) i w + along c (olds working from) (i + 2 ^ c.live) w) (along c (olds working from) i w)) (sym b)

  pub one-is : {a : ℕ} → c.begins ≡ false → a ≡ along c (olds working from) i w → a ≡ leaving c (olds working from) i w
  one-is b ea =
      ea
      ∙ ap (λ (t : Bool). cond t (along c (olds working from) i w + along c (olds working from) (i + 2 ^ c.live) w) (along c (olds working from) i w)) (sym b)

-- ---- the ways that begin at a state depend on what the branches lead to

shifted-same : (b : ℕ) (F G : ℕ → ℕ) (w : ℕ) → ((v : ℕ) → v ≤ w → F v ≡ G v) → shifted b F w ≡ shifted b G w
shifted-same zero F G w h = h w (omega arith)
shifted-same (suc b) F G zero h = refl
shifted-same (suc b) F G (suc w) h = h w (omega arith)

pub leaving-same : (c : Section) (old new : ℕ → ℕ → ℕ) (m : ℕ) → ((x v : ℕ) → x < branch_count c → v < m → old (leads_to c x) v ≡ new (leads_to c x) v)
    → (i w : ℕ) → i < 2 ^ c.live → w < m → leaving c old i w ≡ leaving c new i w
leaving-same c old new m h i w hi hw = go c.begins refl
  where
    one : (x : ℕ) → x < branch_count c → along c old x w ≡ along c new x w
    one x l = shifted-same (bit_of c x) (old (leads_to c x)) (new (leads_to c x)) w (λ v k. h x v l (omega arith))

    go : (b : Bool) → c.begins ≡ b
        → cond b (along c old i w + along c old (i + 2 ^ c.live) w) (along c old i w)
        ≡ cond b (along c new i w + along c new (i + 2 ^ c.live) w) (along c new i w)
    go true e = ap₂ ◌+◌ (one i (below-low c i hi)) (one (i + 2 ^ c.live) (below-high c i hi e))
    go false e = one i (below-low c i hi)
