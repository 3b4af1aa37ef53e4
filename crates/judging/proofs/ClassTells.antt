-- The class of a state of theirs tells the state of ours with the same ways, section by section from the far end.
use borrow.Author.Tests.{eq-eqb, eqb-true}
use lib.Bits.{bit_xor, xor_lt}
use lib.Dec.{eqb}
use mathlib.Core.Bool.{Bool, cond, false, false≢true, true}
use mathlib.Core.Path.{ap, refl, subst, sym, ◌∙◌, ◌≡◌}
use native.Mathlib.Omega.{arith}
use Prim.Native.Nat.{◌+◌, ◌<◌, ◌^◌, suc, zero, ℕ, ◌≤◌}
use Rattle.plates.specs.declared.Plate.{Plate}
use Rattle.plates.specs.Prepare.{rows_of}
use Rattle.plates.specs.Profile.{live_at}
use Rattle.plates.specs.Sound.{Sound}
use Rattle.trellises.proofs.SectionAgrees.{live-count}
use Rattle.trellises.specs.declared.Section.{Section}
use Rattle.trellises.specs.Graph.{Graph}
use Rattle.trellises.specs.Numbers.{bit_of}
use Rattle.trellises.specs.SectionOf.{section_of}
use Rattle.words.proofs.Word.{bit-lt}
use Rattle.words.specs.Word.{bit}
use Rattle.judging.proofs.OurStates.{code-leads, our-apart, our-branch, our-leads, our-small, our-way}
use Rattle.judging.proofs.Tells.{tells-flipped}
use Rattle.judging.specs.Ours.{Classed, follows, ours, suits}
use Rattle.judging.specs.Ways.{Leads, Same, Tells}

-- ---- two tests in one

pub suits-true : (c : Section) (y x0 x1 : ℕ) → suits c y x0 x1 ≡ true → (follows c y 0 ≡ x0) × (follows c y 1 ≡ x1)
suits-true c y x0 x1 e = go (eqb (follows c y 0) x0) refl e
  where
    go : (b : Bool) → eqb (follows c y 0) x0 ≡ b → cond b (eqb (follows c y 1) x1) false ≡ true → (follows c y 0 ≡ x0) × (follows c y 1 ≡ x1)
    go true p q = (eqb-true (follows c y 0) x0 p, eqb-true (follows c y 1) x1 q)
    go false p q = absurd (false≢true q)

true-suits : (c : Section) (y x0 x1 : ℕ) → follows c y 0 ≡ x0 → follows c y 1 ≡ x1 → suits c y x0 x1 ≡ true
true-suits c y x0 x1 p q = rw (eq-eqb (follows c y 0) x0 p, eq-eqb (follows c y 1) x1 q)

-- a branch leads to one number
leads-once : (g : Graph) (t u b v w : ℕ) → Leads g t u b v → Leads g t u b w → v ≡ w
leads-once g t u b zero zero p q = refl
leads-once g t u b zero (suc c) p q = let x = q.some c refl in p.all x.0 c x.1 x.2
leads-once g t u b (suc c) w p q = let x = p.some c refl in sym (q.all x.0 c x.1 x.2)

module _ {plate : Plate} (s : Sound plate) (A : Graph) where
  -- what is no state has the ways of no state of ours
  pub tells_none : (d t : ℕ) → t + d ≡ plate.n → Tells A (ours (rows_of plate) plate.mask) d t 0 0
  tells_none d t e = record {
    to = λ y l q. subst (λ (y : ℕ). Same A (ours (rows_of plate) plate.mask) d t 0 y) q (λ w. ((λ f. f), λ f. f));
    from = λ y l h. go y l h;
  }
    where
      go : (y : ℕ) → y ≤ 2 ^ live_at (rows_of plate) t → Same A (ours (rows_of plate) plate.mask) d t 0 y → 0 ≡ y
      go zero l h = refl
      go (suc a) l h = let x = our-way s d t a e (omega arith) in absurd ((h x.0).1 x.1)

  module _ (t : ℕ) (h : t < plate.n) (x0 x1 x : ℕ) (k : Classed (section_of (rows_of plate) t) x0 x1 x) where
    abbrev c : Section
    c = section_of (rows_of plate) t

    size : 2 ^ c.live ≡ 2 ^ live_at (rows_of plate) t
    size = ap (λ (m : ℕ). 2 ^ m) (live-count t (rows_of plate))

    -- the mask's bit
    abbrev flip : ℕ
    flip = bit plate.mask t

    leads : (y b : ℕ) → y ≤ 2 ^ live_at (rows_of plate) t → b < 2 → Leads (ours (rows_of plate) plate.mask) t y (bit_xor b flip) (follows c y b)
    leads = code-leads s t h

    abbrev Hit : ℕ → Type 0
    Hit y = Leads (ours (rows_of plate) plate.mask) t y (bit_xor 0 flip) x0 × Leads (ours (rows_of plate) plate.mask) t y (bit_xor 1 flip) x1 × (x0 ≤ 2 ^ live_at (rows_of plate) (suc t)) × (x1 ≤ 2 ^ live_at (rows_of plate) (suc t))

    -- a number whose branches lead there
    hit-by : (y : ℕ) → y ≤ 2 ^ live_at (rows_of plate) t → follows c y 0 ≡ x0 → follows c y 1 ≡ x1 → Hit y
    hit-by y l p q = (
      subst (Leads (ours (rows_of plate) plate.mask) t y (bit_xor 0 flip)) p (leads y 0 l (omega arith)),
      subst (Leads (ours (rows_of plate) plate.mask) t y (bit_xor 1 flip)) q (leads y 1 l (omega arith)),
      subst (λ (z : ℕ). z ≤ 2 ^ live_at (rows_of plate) (suc t)) p (our-small s t h y 0 l (omega arith)),
      subst (λ (z : ℕ). z ≤ 2 ^ live_at (rows_of plate) (suc t)) q (our-small s t h y 1 l (omega arith)),
    )

    hits : (y : ℕ) → y ≤ 2 ^ live_at (rows_of plate) t → x ≡ y → Hit y
    hits zero l e = let n = k.none e in hit-by 0 l (sym n.0) (sym n.1)
    hits (suc a) l e = let n = suits-true c (suc a) x0 x1 (k.found a (omega (arith, size)) e) in hit-by (suc a) l n.0 n.1

    -- where its branches lead decides the number
    is_zero : (z : ℕ) → x ≡ z → x0 ≡ 0 → x1 ≡ 0 → z ≤ 2 ^ live_at (rows_of plate) t → z ≡ 0
    is_zero zero e p q l = refl
    is_zero (suc z) e p q l =
        let n = suits-true c (suc z) x0 x1 (k.found z (omega (arith, size)) e) in
        absurd (our-branch s t h z (both (bit_of c z) (omega arith) (n.0 ∙ p) (n.1 ∙ q)))
      where
        both : (b : ℕ) → b < 2 → follows c (suc z) 0 ≡ 0 → follows c (suc z) 1 ≡ 0 → follows c (suc z) b ≡ 0
        both zero l u v = u
        both (suc zero) l u v = v
        both (suc (suc b)) l u v = absurd (omega arith)

    finds : (y : ℕ) → y ≤ 2 ^ live_at (rows_of plate) t → Leads (ours (rows_of plate) plate.mask) t y (bit_xor 0 flip) x0 → Leads (ours (rows_of plate) plate.mask) t y (bit_xor 1 flip) x1 → x ≡ y
    finds zero l p q = is_zero x refl (p.none refl) (q.none refl) (omega (arith, size, k.dead (p.none refl) (q.none refl)))
    finds (suc a) l p q =
        let e0 : follows c (suc a) 0 ≡ x0 = leads-once (ours (rows_of plate) plate.mask) t (suc a) (bit_xor 0 flip) _ _ (leads (suc a) 0 l (omega arith)) p in
        let e1 : follows c (suc a) 1 ≡ x1 = leads-once (ours (rows_of plate) plate.mask) t (suc a) (bit_xor 1 flip) _ _ (leads (suc a) 1 l (omega arith)) q in
        let f = k.finds a (omega (arith, size)) (true-suits c (suc a) x0 x1 e0 e1) in
        let n = suits-true c (suc f.0) x0 x1 (k.found f.0 f.1 f.2) in
        f.2 ∙ ap suc (our-apart s t h f.0 a (omega (arith, f.1, size)) (omega arith) (both f.0 (n.0 ∙ sym e0) (n.1 ∙ sym e1)))
      where
        both : (z : ℕ) → follows c (suc z) 0 ≡ follows c (suc a) 0 → follows c (suc z) 1 ≡ follows c (suc a) 1 → (b : ℕ) → b < 2 → follows c (suc z) b ≡ follows c (suc a) b
        both z u v zero m = u
        both z u v (suc zero) m = v
        both z u v (suc (suc b)) m = absurd (omega arith)

    -- what the next states tell decides what a state tells
    pub class-tells : (d u u0 u1 : ℕ) → Leads A t u (bit_xor 0 (bit plate.mask t)) u0 → Leads A t u (bit_xor 1 (bit plate.mask t)) u1
        → Tells A (ours (rows_of plate) plate.mask) d (suc t) u0 x0 → Tells A (ours (rows_of plate) plate.mask) d (suc t) u1 x1
        → Tells A (ours (rows_of plate) plate.mask) (suc d) t u x
    class-tells d u u0 u1 a0 a1 m0 m1 =
        tells-flipped A (ours (rows_of plate) plate.mask) flip (bit-lt t plate.mask) d t u u0 u1 a0 a1 x0 x1 x m0 m1 hits
        (λ y b l m. (follows c y (bit_xor b flip), our-leads s t h y b l m, our-small s t h y (bit_xor b flip) l (xor_lt 1 b flip m (bit-lt t plate.mask)))) finds
