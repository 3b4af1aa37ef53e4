-- A state's choice depends only on the metrics where its branches lead.
use lib.IntN.{◌+ℤ◌, ℤ}
use mathlib.Core.Bool.{Bool, cond, false, true}
use mathlib.Core.Path.{ap, ap₂, refl, sym, ◌∙◌, ◌≡◌}
use Prim.Native.Nat.{◌+◌, ◌<◌, ◌^◌, ℕ}
use Rattle.decoding.specs.Taking.{Taken, added, at_state, preferred, signed, taking, taking_also}
use Rattle.trellises.proofs.SectionBranches.{below-high, below-low}
use Rattle.trellises.specs.declared.Section.{Section}
use Rattle.trellises.specs.Numbers.{bit_of, branch_count, leads_to}

-- the choice by the metrics of its two branches
abbrev by_two : Section → ℤ → ℤ → ℕ → ℕ → Taken
by_two c m p i also = record {
  metric = cond (preferred p (bit_of c also) m) p m;
  bit = cond (preferred p (bit_of c also) m) (bit_of c also) (bit_of c i);
  additions = 2;
  comparisons = 1;
}

abbrev by_one : Section → ℤ → ℕ → Taken
by_one c m i = record { metric = m; bit = bit_of c i; additions = 1; comparisons = 0 }

pub choice-same : (c : Section) (y : ℤ) (old old' : ℕ → ℤ) (i : ℕ) → i < 2 ^ c.live
    → ((x : ℕ) → x < branch_count c → old (leads_to c x) ≡ old' (leads_to c x)) → at_state c y old i ≡ at_state c y old' i
choice-same c y old old' i h same = go c.begins refl
  where
    added-same : (x : ℕ) → x < branch_count c → added c y old x ≡ added c y old' x
    added-same x k = ap (λ (m : ℤ). signed (bit_of c x) y +ℤ m) (same x k)

    one : added c y old i ≡ added c y old' i
    one = added-same i (below-low c i h)

    go : (b : Bool) → c.begins ≡ b → cond c.begins (taking_also c y old (taking c y old i) (i + 2 ^ c.live)) (taking c y old i) ≡ cond c.begins (taking_also c y old' (taking c y old' i) (i + 2 ^ c.live)) (taking c y old' i)
    go true e =
        ap (λ (b : Bool). cond b (taking_also c y old (taking c y old i) (i + 2 ^ c.live)) (taking c y old i)) e
        ∙ ap₂ (λ (m p : ℤ). by_two c m p i (i + 2 ^ c.live)) one (added-same (i + 2 ^ c.live) (below-high c i h e))
        ∙ sym (ap (λ (b : Bool). cond b (taking_also c y old' (taking c y old' i) (i + 2 ^ c.live)) (taking c y old' i)) e)
    go false e =
        ap (λ (b : Bool). cond b (taking_also c y old (taking c y old i) (i + 2 ^ c.live)) (taking c y old i)) e
        ∙ ap (λ (m : ℤ). by_one c m i) one
        ∙ sym (ap (λ (b : Bool). cond b (taking_also c y old' (taking c y old' i) (i + 2 ^ c.live)) (taking c y old' i)) e)
