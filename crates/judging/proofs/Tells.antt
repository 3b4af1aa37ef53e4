-- A number that tells which state of ours, or none, has the same ways to the end as a state of theirs.
use lib.Bits.{bit_xor}
use mathlib.Core.Logic.Iff
use mathlib.Core.Logic.{◌↔◌}
use mathlib.Core.Path.{refl, subst, sym, ◌∙◌, ◌≡◌}
use native.Mathlib.Decide.{ℕ_discrete}
use native.Mathlib.Omega.{arith}
use Prim.Native.Nat.{◌%◌, ◌*◌, ◌+◌, ◌/◌, ◌<◌, suc, zero, ℕ, ◌≤◌}
use Rattle.trellises.specs.Graph.{Graph}
use Rattle.judging.proofs.Ways.{from_step}
use Rattle.judging.specs.Ways.{From, Leads, Same, Tells}

module _ (A B : Graph) where
  -- at the end: the end state tells 1, all others 0
  pub tells-end : (n u x : ℕ) → B.states n ≡ 1 → (u ≡ 1 → x ≡ 1) → ((u ≡ 1 → ⊥) → x ≡ 0) → Tells A B 0 n u x
  tells-end n u x s is not = record { to = to; from = from }
    where
      has_end : u ≡ 1 → From A 0 n u 0
      has_end e = subst (λ (z : ℕ). From A 0 n z 0) (sym e) (refl, refl)

      only_end : (u w : ℕ) → From A 0 n u w → (u ≡ 1) × (w ≡ 0)
      only_end zero w f = absurd f
      only_end (suc v) w f = (omega (arith, f.0), f.1)

      ours : (y w : ℕ) → y ≤ 1 → From B 0 n y w → (y ≡ 1) × (w ≡ 0)
      ours zero w l f = absurd f
      ours (suc v) w l f = (omega arith, f.1)

      there : (y w : ℕ) → y ≡ 1 → w ≡ 0 → From B 0 n y w
      there y w e z = subst (λ (k : ℕ). From B 0 n k w) (sym e) (refl, z)

      here : (w : ℕ) → u ≡ 1 → w ≡ 0 → From A 0 n u w
      here w e z = subst (λ (k : ℕ). From A 0 n k w) (sym e) (refl, z)

      to : (y : ℕ) → y ≤ B.states n → x ≡ y → Same A B 0 n u y
      to y l e w = (
        (λ f. let o = only_end u w f in there y w (sym e ∙ is o.0) o.1),
        λ f. let o = ours y w (omega (arith, s)) f in go w (ℕ_discrete u 1) o.0 o.1,
      )
        where
          go : (w : ℕ) → Dec (u ≡ 1) → y ≡ 1 → w ≡ 0 → From A 0 n u w
          go w (yes q) a z = here w q z
          go w (no q) a z = absurd (omega (arith, not q, e, a))

      from : (y : ℕ) → y ≤ B.states n → Same A B 0 n u y → x ≡ y
      from y l h = go (ℕ_discrete u 1)
        where
          go : Dec (u ≡ 1) → x ≡ y
          go (yes q) = is q ∙ sym (ours y 0 (omega (arith, s)) ((h 0).0 (has_end q))).0
          go (no q) = side (ℕ_discrete y 1)
            where
              side : Dec (y ≡ 1) → x ≡ y
              side (yes a) = absurd (q (only_end u 0 ((h 0).1 (there y 0 a refl))).0)
              side (no a) = omega (arith, not q, a, l, s)

  -- a word with a bit in front of it
  front : (b r : ℕ) → b < 2 → ((r * 2 + b) % 2 ≡ b) × ((r * 2 + b) / 2 ≡ r)
  front b r l = (omega arith, omega arith)

  -- to each bit
  pub same-one : (d t u b v y z : ℕ) → b < 2 → Leads A t u b v → Leads B t y b z → Same A B (suc d) t u y → Same A B d (suc t) v z
  same-one d t u b v y z l a o s r =
      let q = front b r l in
      subst (λ (k : ℕ). From A d (suc t) v k ↔ From B d (suc t) z k) q.1
      (Iff.trans (Iff.symm (from_step A d t b u v a (r * 2 + b) q.0)) (Iff.trans (s (r * 2 + b)) (from_step B d t b y z o (r * 2 + b) q.0)))

  module _ (d t u u0 u1 : ℕ) (a0 : Leads A t u 0 u0) (a1 : Leads A t u 1 u1) where
    -- from both bits
    pub same-both : (y y0 y1 : ℕ) → Leads B t y 0 y0 → Leads B t y 1 y1 → Same A B d (suc t) u0 y0 → Same A B d (suc t) u1 y1 → Same A B (suc d) t u y
    same-both y y0 y1 b0 b1 s0 s1 w = go (w % 2) refl (omega arith)
      where
        go : (b : ℕ) → w % 2 ≡ b → b < 2 → From A (suc d) t u w ↔ From B (suc d) t y w
        go zero e l = Iff.trans (from_step A d t 0 u u0 a0 w e) (Iff.trans (s0 (w / 2)) (Iff.symm (from_step B d t 0 y y0 b0 w e)))
        go (suc zero) e l = Iff.trans (from_step A d t 1 u u1 a1 w e) (Iff.trans (s1 (w / 2)) (Iff.symm (from_step B d t 1 y y1 b1 w e)))
        go (suc (suc b)) e l = absurd (omega arith)

    module _ (x0 x1 x : ℕ) (m0 : Tells A B d (suc t) u0 x0) (m1 : Tells A B d (suc t) u1 x1)
        (hits : (y : ℕ) → y ≤ B.states t → x ≡ y → Leads B t y 0 x0 × Leads B t y 1 x1 × (x0 ≤ B.states (suc t)) × (x1 ≤ B.states (suc t)))
        (leads : (y b : ℕ) → y ≤ B.states t → b < 2 → (z : ℕ) × Leads B t y b z × (z ≤ B.states (suc t)))
        (finds : (y : ℕ) → y ≤ B.states t → Leads B t y 0 x0 → Leads B t y 1 x1 → x ≡ y) where
      -- what the next states tell decides what this one tells
      pub tells-step : Tells A B (suc d) t u x
      tells-step = record {
        to = λ y l e. let h = hits y l e in same-both y x0 x1 h.0 h.1 (m0.to x0 h.2 refl) (m1.to x1 h.3 refl);
        from = λ y l s.
            let o0 = leads y 0 l (omega arith) in
            let o1 = leads y 1 l (omega arith) in
            let e0 : x0 ≡ o0.0 = m0.from o0.0 o0.2 (same-one d t u 0 u0 y o0.0 (omega arith) a0 o0.1 s) in
            let e1 : x1 ≡ o1.0 = m1.from o1.0 o1.2 (same-one d t u 1 u1 y o1.0 (omega arith) a1 o1.1 s) in
            finds y l (subst (Leads B t y 0) (sym e0) o0.1) (subst (Leads B t y 1) (sym e1) o1.1);
      }

-- the same where the first of the two branches is the one with bit `flip`
pub tells-flipped : (A B : Graph) (flip : ℕ) → flip < 2 → (d t u u0 u1 : ℕ) → Leads A t u (bit_xor 0 flip) u0 → Leads A t u (bit_xor 1 flip) u1
    → (x0 x1 x : ℕ) → Tells A B d (suc t) u0 x0 → Tells A B d (suc t) u1 x1
    → ((y : ℕ) → y ≤ B.states t → x ≡ y
    → Leads B t y (bit_xor 0 flip) x0 × Leads B t y (bit_xor 1 flip) x1 × (x0 ≤ B.states (suc t)) × (x1 ≤ B.states (suc t)))
    → ((y b : ℕ) → y ≤ B.states t → b < 2 → (z : ℕ) × Leads B t y b z × (z ≤ B.states (suc t)))
    → ((y : ℕ) → y ≤ B.states t → Leads B t y (bit_xor 0 flip) x0 → Leads B t y (bit_xor 1 flip) x1 → x ≡ y) → Tells A B (suc d) t u x
tells-flipped A B zero small d t u u0 u1 a0 a1 x0 x1 x m0 m1 hits leads finds = tells-step A B d t u u0 u1 a0 a1 x0 x1 x m0 m1 hits leads finds
tells-flipped A B (suc zero) small d t u u0 u1 a0 a1 x0 x1 x m0 m1 hits leads finds =
    tells-step A B d t u u1 u0 a1 a0 x1 x0 x m1 m0 (λ y l e. let h = hits y l e in (h.1, h.0, h.3, h.2)) leads (λ y l p q. finds y l q p)
tells-flipped A B (suc (suc flip)) small d t u u0 u1 a0 a1 x0 x1 x m0 m1 hits leads finds = absurd (omega arith)
