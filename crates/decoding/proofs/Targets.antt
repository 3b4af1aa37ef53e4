-- Where a branch leads, as the code computes it.
use lib.Pow.{pow-lt, pow_mono}
use mathlib.Core.Bool.{Bool, cond, false, true}
use mathlib.Core.Path.{ap, ap₂, refl, sym, ◌∙◌, ◌≡◌}
use native.Mathlib.Nat.{add_comm, div-add-mod', div-le_self, div-mul-le_self, le_trans, mod-eq_of_lt, mul-le-mul_right, one-mul}
use native.Mathlib.Omega.{arith}
use Prim.Native.Nat.{◌%◌, ◌*◌, ◌+◌, ◌/◌, ◌<◌, ◌^◌, ℕ, ◌≤◌}
use Rattle.decoding.proofs.Without.{without-cat, without-past}
use Rattle.decoding.specs.Running.{place_of}
use Rattle.decoding.specs.Stepping.{SectionFits}
use Rattle.trellises.specs.declared.Section.{Section}
use Rattle.trellises.specs.Numbers.{branch_count, leads_to, without}

-- 2 ^ k by a shift
pub shifted_one : (k : ℕ) → k < 64 → (1 * 2 ^ k) % 2 ^ 64 ≡ 2 ^ k
shifted_one k h = rw (one-mul (2 ^ k)) (mod-eq_of_lt (pow-lt h))

-- with a digit taken out a number is no greater
pub half_le : (x p : ℕ) → x / p / 2 * p ≤ x
half_le x p = le_trans (mul-le-mul_right p (div-le_self (x / p) 2)) (div-mul-le_self x p)

pub without-le : (x p : ℕ) → x / p / 2 * p + x % p ≤ x
without-le x p = omega (arith, mul-le-mul_right p (div-le_self (x / p) 2), div-add-mod' x p)

module _ (c : Section) (h : SectionFits c) where
  -- 2 ^ live is at most 4,096
  pub live-le : 2 ^ c.live ≤ 2 ^ 12
  live-le = pow_mono h.narrow

  -- a branch has at most 13 digits
  pub branch-lt : (x : ℕ) → x < branch_count c → x < 2 ^ 13
  branch-lt x = go c.begins
    where
      go : (b : Bool) → x < cond b (2 ^ c.live + 2 ^ c.live) (2 ^ c.live) → x < 2 ^ 13
      go true l = omega (arith, live-le)
      go false l = omega (arith, live-le)

  pub place-lt : place_of c < 64
  place-lt = go c.ends refl
    where
      go : (b : Bool) → c.ends ≡ b → cond b c.ending 13 < 64
      go true e = omega (arith, h.ending e, h.narrow)
      go false e = omega arith

  pub leads-place : (x : ℕ) → x < 2 ^ 13 → leads_to c x ≡ without (place_of c) x
  leads-place x l = go c.ends
    where
      go : (b : Bool) → cond b (without c.ending x) x ≡ without (cond b c.ending 13) x
      go true = refl
      go false = sym (without-past 13 x l)

  pub source_is : (x p r : ℕ) → x < branch_count c → p ≡ place_of c → r ≡ without p x → r ≡ leads_to c x
  source_is x p r l ep er = er ∙ ap (λ (e : ℕ). without e x) ep ∙ sym (leads-place x (branch-lt x l))

  -- how far the second branch of a state leads past its first
  pub stride-is : (p s r : ℕ) → p ≡ place_of c → s ≡ 2 ^ c.live → r ≡ without p s → r ≡ leads_to c (2 ^ c.live)
  stride-is p s r ep es er =
      er ∙ ap₂ without ep es ∙ sym (leads-place (2 ^ c.live) (omega (arith, live-le)))

  pub far-leads : (i : ℕ) → i < 2 ^ c.live → leads_to c (i + 2 ^ c.live) ≡ leads_to c i + leads_to c (2 ^ c.live)
  far-leads i l =
      let e : i + 2 ^ c.live ≡ 1 * 2 ^ c.live + i = omega arith in
      let f : 1 * 2 ^ c.live ≡ 2 ^ c.live = omega arith in
      leads-place (i + 2 ^ c.live) (omega (arith, live-le)) ∙ ap (without (place_of c)) e
      ∙ without-cat (place_of c) c.live 1 i l ∙ add_comm (without (place_of c) (1 * 2 ^ c.live)) (without (place_of c) i)
      ∙ ap₂ ◌+◌ (sym (leads-place i (omega (arith, live-le)))) (ap (without (place_of c)) f ∙ sym (leads-place (2 ^ c.live) (omega (arith, live-le))))

  -- the branches of a state
  pub first-branch : (i : ℕ) → i < 2 ^ c.live → i < branch_count c
  first-branch i l = go c.begins
    where
      go : (b : Bool) → i < cond b (2 ^ c.live + 2 ^ c.live) (2 ^ c.live)
      go true = omega arith
      go false = l

  pub second-branch : (i : ℕ) → i < 2 ^ c.live → c.begins ≡ true → i + 2 ^ c.live < branch_count c
  second-branch i l e = rw e (omega arith)
