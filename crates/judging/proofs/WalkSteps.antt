-- The walk to the earliest word that tells: one section, and all of them.
use borrow.Author.Tests.{eq-eqb, ne_eqb}
use lib.Bits.{bit_xor, xor_lt}
use lib.Dec.{eqb}
use lib.ListN.{length}
use mathlib.Core.Bool.{Bool, false, true}
use mathlib.Core.List.{List}
use mathlib.Core.Path.{ap, subst, sym, ◌∙◌, ◌≡◌}
use native.Mathlib.Decide.{ℕ_discrete}
use native.Mathlib.Nat.{add-mul, mul_assoc, mul_comm, one-mul, pow-suc, zero-mul}
use native.Mathlib.Omega.{arith}
use Prim.Native.Nat.{◌*◌, ◌+◌, ◌-◌, ◌<◌, ◌^◌, suc, zero, ℕ, ◌≤◌}
use Rattle.trellises.specs.declared.Section.{Section}
use Rattle.trellises.specs.Graph.{Graph}
use Rattle.trellises.specs.SectionOf.{held, section_of}
use Rattle.words.proofs.Word.{bit-lt}
use Rattle.words.specs.Word.{bit}
use Rattle.judging.proofs.Differing.{differs-on, differs-ours, differs-theirs}
use Rattle.judging.proofs.StatesTold.{follows-small, leads-ours, line-told, section-is, section-small, states-are}
use Rattle.judging.proofs.Tells.{same-both}
use Rattle.judging.proofs.Theirs.{line-leads}
use Rattle.judging.specs.declared.walking.Place.{Place}
use Rattle.judging.specs.Ours.{Small, follows, ours}
use Rattle.judging.specs.Room.{Holds, LineFrom, Within, lead_number, theirs, told_number}
use Rattle.std.proofs.Common.{None, Option, Some, refl}
use Rattle.judging.specs.Steps.{SteppedTo, Stepping}
use Rattle.judging.specs.Ways.{Differs, From, Leads, Same}

lead-most : (n : ℕ) (room : List ℕ) (lines : ℕ) → Holds n lines room → (j : Option ℕ) → ((i : ℕ) → j ≡ Some i → i < lines) → lead_number room j ≤ 1024
lead-most n room lines h None l = omega arith
lead-most n room lines h (Some j) l = omega (arith, h.leads j (l j refl))

-- what looking up a line and following a branch of ours ask
module _ {rows : List ℕ} {mask n : ℕ} {room : List ℕ} {lines t u y : ℕ} (p : Stepping rows mask n room lines t u y) where
  pub step_line : {b : ℕ} → b < 2 → (length room ≡ 4 * lines) × Within t (u - 1) b
  step_line two = (
    p.asking.ready.holds.size,
    record {
      depth_small = omega (arith, p.before, p.asking.ready.holds.short);
      state_small = omega (arith, p.theirs_small);
      bit_small = two;
    },
  )

  pub step-follow : {c : Section} → c ≡ held (section_of rows t) → Small c × (y ≤ 2 ^ c.live)
  step-follow {c} e =
      (section-small p.asking.ready.plate t p.before c e, omega (arith, states-are p.asking.ready.plate t p.before c e, p.ours_small))

module _ (rows : List ℕ) (mask n : ℕ) (room : List ℕ) (lines t u y : ℕ) (p : Stepping rows mask n room lines t u y) (c : Section) (ec : c ≡ held (section_of rows t)) where
  one_more : suc (n - suc t) ≡ n - t
  one_more = omega (arith, p.before)

  -- our branch, as the code finds it
  our-branch-leads : (b z : ℕ) → b < 2 → z ≡ follows c y (bit_xor b (bit mask t)) → Leads (ours rows mask) t y b z × (z ≤ (ours rows mask).states (suc t))
  our-branch-leads b z two e =
      let q : follows (section_of rows t) y (bit_xor b (bit mask t)) ≡ z =
      sym (e ∙ ap (λ (c : Section). follows c y (bit_xor b (bit mask t))) (section-is p.asking.ready.plate t p.before c ec)) in (
        subst (Leads (ours rows mask) t y b) q (leads-ours p.asking.ready.plate t y b p.before p.ours_small two),
        subst (λ (z : ℕ). z ≤ (ours rows mask).states (suc t)) q (follows-small p.asking.ready.plate t y (bit_xor b (bit mask t)) p.before p.ours_small (xor_lt 1 b (bit mask t) two (bit-lt t mask))),
      )

  -- theirs
  their-leads : (b : ℕ) (j : Option ℕ) → b < 2 → LineFrom room lines t u b j → Leads (theirs n lines room) t u b (lead_number room j)
  their-leads b j two l = line-leads n lines room p.asking.ready.holds t u b j p.theirs_small two l

  module _ (j0 : Option ℕ) (z0 : ℕ) (l0 : LineFrom room lines t u 0 j0) (e0 : z0 ≡ follows c y (bit_xor 0 (bit mask t))) where
    -- what the ways with 0 tell
    told-zero : told_number room j0 ≡ z0 → Same (theirs n lines room) (ours rows mask) (n - suc t) (suc t) (lead_number room j0) z0
    told-zero q =
        (line-told p.asking.ready.plate room lines p.asking.ready.holds t p.before (p.asking.told p.before) u 0 j0 p.theirs_small (omega arith) l0
        ).to z0 (our-branch-leads 0 z0 (omega arith) e0).1 q

    zero-told : Same (theirs n lines room) (ours rows mask) (n - suc t) (suc t) (lead_number room j0) z0 → told_number room j0 ≡ z0
    zero-told q =
        (line-told p.asking.ready.plate room lines p.asking.ready.holds t p.before (p.asking.told p.before) u 0 j0 p.theirs_small (omega arith) l0
        ).from z0 (our-branch-leads 0 z0 (omega arith) e0).1 q

    -- they differ: the walk takes 0
    pub step-zero : (told_number room j0 ≡ z0 → ⊥) → (lead : ℕ) → lead ≡ lead_number room j0
        → SteppedTo (theirs n lines room) (ours rows mask) n t u y (record { theirs = lead; ours = z0; bit = 0 })
    step-zero d lead e = subst (λ (k : ℕ). SteppedTo (theirs n lines room) (ours rows mask) n t u y (record { theirs = k; ours = z0; bit = 0 })) (sym e) (record {
      theirs_small = lead-most n room lines p.asking.ready.holds j0 l0.there;
      ours_small = (our-branch-leads 0 z0 (omega arith) e0).1;
      bit_small = omega arith;
      apart = λ a s. d (zero-told s);
      on = λ r s a f. subst (λ (k : ℕ). Differs (theirs n lines room) (ours rows mask) k t u y (r * 2 + 0) s) one_more
          (differs-on (theirs n lines room) (ours rows mask) (n - suc t) t u y (lead_number room j0) z0 0 (lead_number room j0) z0 r s (omega arith)
          (their-leads 0 j0 (omega arith) l0) (our-branch-leads 0 z0 (omega arith) e0).0 (λ q. absurd (omega (arith, q)))
          (their-leads 0 j0 (omega arith) l0) (our-branch-leads 0 z0 (omega arith) e0).0 f);
    })

    -- they are the same: it takes 1
    pub step-one : told_number room j0 ≡ z0 → (j1 : Option ℕ) (z1 lead : ℕ) → LineFrom room lines t u 1 j1 → z1 ≡ follows c y (bit_xor 1 (bit mask t)) → lead ≡ lead_number room j1
        → SteppedTo (theirs n lines room) (ours rows mask) n t u y (record { theirs = lead; ours = z1; bit = 1 })
    step-one q j1 z1 lead l1 e1 e = subst (λ (k : ℕ). SteppedTo (theirs n lines room) (ours rows mask) n t u y (record { theirs = k; ours = z1; bit = 1 })) (sym e) (record {
      theirs_small = lead-most n room lines p.asking.ready.holds j1 l1.there;
      ours_small = (our-branch-leads 1 z1 (omega arith) e1).1;
      bit_small = omega arith;
      apart = λ a s. a (subst (λ (k : ℕ). Same (theirs n lines room) (ours rows mask) k t u y) one_more
          (same-both (theirs n lines room) (ours rows mask) (n - suc t) t u (lead_number room j0) (lead_number room j1)
          (their-leads 0 j0 (omega arith) l0) (their-leads 1 j1 (omega arith) l1) y z0 z1
          (our-branch-leads 0 z0 (omega arith) e0).0 (our-branch-leads 1 z1 (omega arith) e1).0 (told-zero q) s));
      on = λ r s a f. subst (λ (k : ℕ). Differs (theirs n lines room) (ours rows mask) k t u y (r * 2 + 1) s) one_more
          (differs-on (theirs n lines room) (ours rows mask) (n - suc t) t u y (lead_number room j0) z0 1 (lead_number room j1) z1 r s (omega arith)
          (their-leads 0 j0 (omega arith) l0) (our-branch-leads 0 z0 (omega arith) e0).0 (λ x. told-zero q)
          (their-leads 1 j1 (omega arith) l1) (our-branch-leads 1 z1 (omega arith) e1).0 f);
    })

-- ---- the whole walk

-- the walk stands before section t: the word so far, and two numbers whose ways differ
pub record Walked (A B : Graph) (n t u y word : ℕ) : Type 0 where
  pub within : t ≤ n
  pub theirs_small : u ≤ 1024
  pub ours_small : y ≤ B.states t
  pub word_small : word < 2 ^ t
  pub apart : Same A B (n - t) t u y → ⊥
  pub makes : (r : ℕ) (s : Bool) → Differs A B (n - t) t u y r s → Differs A B n 0 1 1 (word + r * 2 ^ t) s

pub walked_start : (A B : Graph) (n : ℕ) → B.states 0 ≡ 1 → (Same A B n 0 1 1 → ⊥) → Walked A B n 0 1 1 0
walked_start A B n e d = record {
  within = omega arith;
  theirs_small = omega arith;
  ours_small = omega (arith, e);
  word_small = omega arith;
  apart = λ s. d (subst (λ (k : ℕ). Same A B k 0 1 1) z s);
  makes = λ r s f.
      let q : r ≡ 0 + r * 2 ^ 0 = omega arith in
      subst (λ (k : ℕ). Differs A B n 0 1 1 k s) q (subst (λ (k : ℕ). Differs A B k 0 1 1 r s) z f);
}
  where
    z : n - 0 ≡ n
    z = omega arith

pub walked_on : (A B : Graph) (n t u y word : ℕ) → t < n → Walked A B n t u y word → (p : Place) → SteppedTo A B n t u y p
    → (w : ℕ) → w ≡ word + p.bit * 2 ^ t → w < 2 ^ suc t → Walked A B n (t + 1) p.theirs p.ours w
walked_on A B n t u y word l k p s w e m = subst (λ (x : ℕ). Walked A B n x p.theirs p.ours w) (suc_one t) (record {
  within = l;
  theirs_small = s.theirs_small;
  ours_small = s.ours_small;
  word_small = m;
  apart = s.apart k.apart;
  makes = λ r x f.
      let q : word + (r * 2 + p.bit) * 2 ^ t ≡ w + r * 2 ^ suc t = algebra r (2 ^ t) (2 ^ suc t) (pow-suc 2 t) e in
      subst (λ (z : ℕ). Differs A B n 0 1 1 z x) q (k.makes (r * 2 + p.bit) x (s.on r x k.apart f));
})
  where
    suc_one : (t : ℕ) → suc t ≡ t + 1
    suc_one t = omega arith

    algebra : (r x z : ℕ) → z ≡ x * 2 → w ≡ word + p.bit * x → word + (r * 2 + p.bit) * x ≡ w + r * z
    algebra r x z h e =
        let first : (r * 2 + p.bit) * x ≡ r * 2 * x + p.bit * x = add-mul (r * 2) p.bit x in
        let second : r * 2 * x ≡ r * (x * 2) = mul_assoc r 2 x ∙ ap (λ (k : ℕ). r * k) (mul_comm 2 x) in
        let third : r * z ≡ r * (x * 2) = ap (λ (k : ℕ). r * k) h in
        omega (arith, first, second, third, e)

-- at the end one of the two is the end state
pub walked_end : (A B : Graph) (n u y word : ℕ) → B.states n ≡ 1 → Walked A B n n u y word → Differs A B n 0 1 1 word (eqb u 1)
walked_end A B n u y word e k =
    let q : word + 0 * 2 ^ n ≡ word = omega arith in
    subst (λ (w : ℕ). Differs A B n 0 1 1 w (eqb u 1)) q (k.makes 0 (eqb u 1) (subst (λ (d : ℕ). Differs A B d n u y 0 (eqb u 1)) z (go (ℕ_discrete u 1) (ℕ_discrete y 1))))
  where
    z : 0 ≡ n - n
    z = omega arith

    not_same : Same A B 0 n u y → ⊥
    not_same s = k.apart (subst (λ (d : ℕ). Same A B d n u y) z s)

    both : u ≡ 1 → y ≡ 1 → Same A B 0 n u y
    both p q = subst (λ (u : ℕ). Same A B 0 n u y) (sym p) (subst (λ (y : ℕ). Same A B 0 n 1 y) (sym q) (λ w. ((λ f. f), λ f. f)))

    none : (u : ℕ) → (u ≡ 1 → ⊥) → (w : ℕ) → From A 0 n u w → ⊥
    none zero d w f = f
    none (suc v) d w f = d (ap suc f.0)

    neither : (u ≡ 1 → ⊥) → y ≡ 0 → Same A B 0 n u y
    neither p q = subst (λ (y : ℕ). Same A B 0 n u y) (sym q) (λ w. ((λ f. absurd (none u p w f)), λ f. absurd f))

    go : Dec (u ≡ 1) → Dec (y ≡ 1) → Differs A B 0 n u y 0 (eqb u 1)
    go (yes p) (yes q) = absurd (not_same (both p q))
    go (yes p) (no q) =
        let i : y ≡ 0 = omega (arith, e, k.ours_small, q) in
        rw (eq-eqb u 1 p) (subst (λ (u : ℕ). Differs A B 0 n u y 0 true) (sym p) (differs-theirs A B n y i))
    go (no p) (yes q) = rw (ne_eqb u 1 p) (subst (λ (y : ℕ). Differs A B 0 n u y 0 false) (sym q) (differs-ours A B n u p))
    go (no p) (no q) = absurd (not_same (neither p (omega (arith, e, k.ours_small, q))))

-- ---- a bit at a position beyond a word

pub bit-left : (word t b : ℕ) → word < 2 ^ t → b ≡ 0 → (word ≡ word + b * 2 ^ t) × (word < 2 ^ suc t)
bit-left word t b l e =
    let z : b * 2 ^ t ≡ 0 = ap (λ (k : ℕ). k * 2 ^ t) e ∙ zero-mul (2 ^ t) in
    (omega (arith, z), omega (arith, l, pow-suc 2 t))

pub bit-set : (word t b w : ℕ) → word < 2 ^ t → b < 2 → (b ≡ 0 → ⊥) → w ≡ 2 ^ t → (word + w ≡ word + b * 2 ^ t) × (word + w < 2 ^ suc t)
bit-set word t b w l two d e =
    let o : b ≡ 1 = omega (arith, two, d) in
    let z : b * 2 ^ t ≡ 2 ^ t = ap (λ (k : ℕ). k * 2 ^ t) o ∙ one-mul (2 ^ t) in
    (omega (arith, z, e), omega (arith, l, e, pow-suc 2 t))
