-- Where our branches lead, case by case as the code finds it.
use borrow.Author.Tests.{eq-eqb, ne_eqb}
use lib.Pow.{pow_mono}
use mathlib.Core.Bool.{Bool, cond, false, false≢true, true}
use mathlib.Core.Path.{ap, refl, subst, sym, ◌∙◌, ◌≡◌}
use native.Mathlib.Numerals.{add-one}
use native.Mathlib.Omega.{arith}
use Prim.Native.Nat.{◌+◌, ◌-◌, ◌<◌, ◌^◌, suc, zero, ℕ, ◌≤◌}
use Rattle.trellises.proofs.Digits.{without-at-most}
use Rattle.trellises.specs.Numbers.{bit_of, leads_to, without}
use Rattle.trellises.specs.declared.Section.{Section}
use Rattle.judging.specs.Ours.{Classed, Small, follows, suits}
use Rattle.judging.specs.Working.{FirstAt, FirstFound}
use Rattle.std.proofs.Common.{None}

module _ (c : Section) where
  -- a branch leads to no greater number than its own
  pub leads-at-most : (x : ℕ) → leads_to c x ≤ x
  leads-at-most x = go c.ends
    where
      go : (e : Bool) → cond e (without c.ending x) x ≤ x
      go true = without-at-most (2 ^ c.ending) x
      go false = omega arith

  pub follows-none : (y b : ℕ) → y ≡ 0 → 0 ≡ follows c y b
  follows-none y b e = rw e

  pub follows-own : (y b r : ℕ) → (y ≡ 0 → ⊥) → bit_of c (y - 1) ≡ b → r ≡ leads_to c (y - 1) → r + 1 ≡ follows c y b
  follows-own zero b r d e q = absurd (d refl)
  follows-own (suc a) b r d e q =
      let z : suc a - 1 ≡ a = omega arith in
      let e' : bit_of c a ≡ b = ap (bit_of c) (sym z) ∙ e in
      let q' : r ≡ leads_to c a = q ∙ ap (leads_to c) z in
      rw (eq-eqb (bit_of c a) b e') (add-one r ∙ ap suc q')

  pub follows-other : (y b r w : ℕ) → (y ≡ 0 → ⊥) → (bit_of c (y - 1) ≡ b → ⊥) → c.begins ≡ true → w ≡ 2 ^ c.live → r ≡ leads_to c (y - 1 + w) → r + 1 ≡ follows c y b
  follows-other zero b r w d e f h q = absurd (d refl)
  follows-other (suc a) b r w d e f h q =
      let z : suc a - 1 ≡ a = omega arith in
      let q' : r ≡ leads_to c (a + 2 ^ c.live) = q ∙ ap (λ (x : ℕ). leads_to c (x + w)) z ∙ ap (λ (x : ℕ). leads_to c (a + x)) h in
      rw (ne_eqb (bit_of c a) b (λ x. e (ap (bit_of c) z ∙ x)), f) (add-one r ∙ ap suc q')

  pub follows-stop : (y b : ℕ) → (y ≡ 0 → ⊥) → (bit_of c (y - 1) ≡ b → ⊥) → c.begins ≡ false → 0 ≡ follows c y b
  follows-stop zero b d e f = absurd (d refl)
  follows-stop (suc a) b d e f =
      let z : suc a - 1 ≡ a = omega arith in
      rw (ne_eqb (bit_of c a) b (λ x. e (ap (bit_of c) z ∙ x)), f)

  -- ---- the number whose branches lead where asked

  module _ (x0 x1 : ℕ) (small : Small c) where
    few : 2 ^ c.live ≤ 4096
    few = omega (arith, pow_mono small.live)

    -- it is found
    pub classed-found : (a : ℕ) → FirstAt (2 ^ c.live) (λ a. suits c (suc a) x0 x1) a → Classed c x0 x1 (a + 1)
    classed-found a first = record {
      found = λ z k e. let q : a ≡ z = omega arith in subst (λ (m : ℕ). suits c (suc m) x0 x1 ≡ true) q first.here;
      finds = λ z k e. (a, first.there, add-one a);
      none = λ e. absurd (omega (arith, e));
      dead = λ p q. omega arith;
    }

    module _ (none : FirstFound (2 ^ c.live) (λ a. suits c (suc a) x0 x1) None) where
      never : (z : ℕ) → z < 2 ^ c.live → suits c (suc z) x0 x1 ≡ true → ⊥
      never z k e = false≢true (sym (none z k) ∙ e)

      -- no state has such branches
      pub classed-beyond : ((x0 ≡ 0) × (x1 ≡ 0) → ⊥) → Classed c x0 x1 8192
      classed-beyond d = record {
        found = λ z k e. absurd (omega (arith, few, e, k));
        finds = λ z k e. absurd (never z k e);
        none = λ e. absurd (omega (arith, e));
        dead = λ p q. absurd (d (p, q));
      }
