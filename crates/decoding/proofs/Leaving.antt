-- Which of the branches that leave a state its choice is: one that beats every other.
use borrow.Author.Tests.{eq-eqb, ne_eqb}
use lib.Dec.{eqb}
use lib.IntN.{ℤ}
use mathlib.Core.Bool.{◌&&◌, Bool, cond, false, not, true, true≢false}
use mathlib.Core.Logic.{inl, inr, ◌⊎◌}
use mathlib.Core.Path.{ap, ap₂, refl, subst, sym, ◌∙◌, ◌≡◌}
use native.Mathlib.Omega.{arith}
use Prim.Native.Nat.{◌+◌, ◌<◌, ◌^◌, ℕ}
use Rattle.decoding.proofs.StateChoice.{Beats, kept-beats, preferred-beats}
use Rattle.decoding.specs.Backward.{branch_by}
use Rattle.decoding.specs.Stepping.{SectionFits}
use Rattle.decoding.specs.Taking.{added, at_state, preferred, taking, taking_also}
use Rattle.trellises.proofs.SectionBranches.{below-high, below-low, leaves-high, leaves-low, leaving-is, other-bit}
use Rattle.trellises.specs.declared.Section.{Section}
use Rattle.trellises.specs.Numbers.{bit_of, branch_count, leaves}

module _ (c : Section) (fits : SectionFits c) (i : ℕ) (h : i < 2 ^ c.live) where
  -- the branch that takes the beginning row
  abbrev also : ℕ
  also = i + 2 ^ c.live

  -- a row that begins has a one here, so the two branches have different bits
  pub two-bits : c.begins ≡ true → bit_of c also ≡ bit_of c i → ⊥
  two-bits b e = omega (arith, other-bit c i h (fits.begun b), e)

  pub bit-two : (x : ℕ) → bit_of c x < 2
  bit-two x = omega arith

  -- ---- what the state chooses

  module _ (y : ℤ) (old : ℕ → ℤ) where
    -- z is the branch chosen: its metric and bit are the state's, it is where the bit leads, and it beats every other branch
    pub record BestBranch (z : ℕ) : Type 0 where
      pub below : z < branch_count c
      pub leaves_i : leaves c z ≡ i
      pub metric : (at_state c y old i).metric ≡ added c y old z
      pub bit_is : (at_state c y old i).bit ≡ bit_of c z
      pub by : branch_by c i (bit_of c z) ≡ z
      pub beats : (x : ℕ) → x < branch_count c → leaves c x ≡ i → (x ≡ z) ⊎ Beats (added c y old z) (bit_of c z) (added c y old x) (bit_of c x)

    stay : (b t : Bool) → t ≡ false → cond (b && t) also i ≡ i
    stay true t e = ap (λ (u : Bool). cond u also i) e
    stay false t e = refl

    go_on : (b t : Bool) → b ≡ true → t ≡ true → cond (b && t) also i ≡ also
    go_on b t e f = ap₂ (λ (u v : Bool). cond (u && v) also i) e f

    by-self : branch_by c i (bit_of c i) ≡ i
    by-self = (stay c.begins (not (eqb (bit_of c i) (bit_of c i))) (ap not (eq-eqb (bit_of c i) (bit_of c i) refl)))

    by-also : c.begins ≡ true → branch_by c i (bit_of c also) ≡ also
    by-also b =
        (go_on c.begins (not (eqb (bit_of c i) (bit_of c also))) b (ap not (ne_eqb (bit_of c i) (bit_of c also) (λ e. two-bits b (sym e)))))

    one-branch : c.begins ≡ false → BestBranch i
    one-branch b = record {
      below = below-low c i h;
      leaves_i = leaves-low c i h;
      metric = ap (λ (t : Bool). (cond t (taking_also c y old (taking c y old i) also) (taking c y old i)).metric) b;
      bit_is = ap (λ (t : Bool). (cond t (taking_also c y old (taking c y old i) also) (taking c y old i)).bit) b;
      by = by-self;
      beats = λ x k e. only x (leaving-is c i h x k e);
    }
      where
        only : (x : ℕ) → (x ≡ i) ⊎ ((c.begins ≡ true) × (x ≡ also)) → (x ≡ i) ⊎ Beats (added c y old i) (bit_of c i) (added c y old x) (bit_of c x)
        only x (inl e) = inl e
        only x (inr (t, e)) = absurd (true≢false (sym t ∙ b))

    two-branches : c.begins ≡ true → (p : Bool) → preferred (added c y old also) (bit_of c also) (added c y old i) ≡ p → (z : ℕ) × BestBranch z
    two-branches b true e = (
      also,
      record {
        below = below-high c i h b;
        leaves_i = leaves-high c i h;
        metric = ap (λ (t : Bool). (cond t (taking_also c y old (taking c y old i) also) (taking c y old i)).metric) b ∙ ap (λ (t : Bool). cond t (added c y old also) (added c y old i)) e;
        bit_is = ap (λ (t : Bool). (cond t (taking_also c y old (taking c y old i) also) (taking c y old i)).bit) b ∙ ap (λ (t : Bool). cond t (bit_of c also) (bit_of c i)) e;
        by = by-also b;
        beats = λ x k l. other x (leaving-is c i h x k l);
      },
    )
      where
        won : Beats (added c y old also) (bit_of c also) (added c y old i) (bit_of c i)
        won = preferred-beats (added c y old also) (added c y old i) (bit_of c also) (bit_of c i) (bit-two also) (bit-two i) (two-bits b) e

        other : (x : ℕ) → (x ≡ i) ⊎ ((c.begins ≡ true) × (x ≡ also)) → (x ≡ also) ⊎ Beats (added c y old also) (bit_of c also) (added c y old x) (bit_of c x)
        other x (inl q) = inr (subst (λ (x : ℕ). Beats (added c y old also) (bit_of c also) (added c y old x) (bit_of c x)) (sym q) won)
        other x (inr (t, q)) = inl q
    two-branches b false e = (
      i,
      record {
        below = below-low c i h;
        leaves_i = leaves-low c i h;
        metric = ap (λ (t : Bool). (cond t (taking_also c y old (taking c y old i) also) (taking c y old i)).metric) b ∙ ap (λ (t : Bool). cond t (added c y old also) (added c y old i)) e;
        bit_is = ap (λ (t : Bool). (cond t (taking_also c y old (taking c y old i) also) (taking c y old i)).bit) b ∙ ap (λ (t : Bool). cond t (bit_of c also) (bit_of c i)) e;
        by = by-self;
        beats = λ x k l. other x (leaving-is c i h x k l);
      },
    )
      where
        won : Beats (added c y old i) (bit_of c i) (added c y old also) (bit_of c also)
        won = kept-beats (added c y old also) (added c y old i) (bit_of c also) (bit_of c i) (bit-two also) (bit-two i) (two-bits b) e

        other : (x : ℕ) → (x ≡ i) ⊎ ((c.begins ≡ true) × (x ≡ also)) → (x ≡ i) ⊎ Beats (added c y old i) (bit_of c i) (added c y old x) (bit_of c x)
        other x (inl q) = inl q
        other x (inr (t, q)) = inr (subst (λ (x : ℕ). Beats (added c y old i) (bit_of c i) (added c y old x) (bit_of c x)) (sym q) won)

    pub best-branch : (z : ℕ) × BestBranch z
    best-branch = go c.begins refl
      where
        go : (b : Bool) → c.begins ≡ b → (z : ℕ) × BestBranch z
        go true b = two-branches b _ refl
        go false b = (i, one-branch b)
