-- What one state of theirs tells, by the lines of its depth; the same for a plate's rows and length.
use lib.Bits.{bit_xor, xor_lt}
use mathlib.Core.List.{List}
use mathlib.Core.Path.{ap, refl, subst, sym, ◌≡◌}
use native.Mathlib.Omega.{arith}
use lib.ListN.{length}
use Prim.Native.Nat.{◌*◌, ◌+◌, ◌-◌, ◌/◌, ◌<◌, ◌^◌, suc, zero, ℕ, ◌≤◌}
use Rattle.plates.specs.Prepare.{rows_of}
use Rattle.trellises.proofs.NextIsBranch.{found, found-ending, found-live}
use Rattle.trellises.specs.declared.Section.{Section}
use Rattle.trellises.specs.Graph.{Graph}
use Rattle.trellises.specs.SectionOf.{held, section_of}
use Rattle.words.proofs.Word.{bit-lt}
use Rattle.words.specs.Word.{bit}
use Rattle.judging.proofs.ClassTells.{class-tells, tells_none}
use Rattle.judging.proofs.OurStates.{one_end, one-start, our-leads, our-small, our-way}
use Rattle.judging.proofs.Tells.{tells-end}
use Rattle.judging.proofs.Theirs.{found-start, line-leads}
use Rattle.judging.specs.Ours.{Classed, OfPlate, Small, follows, ours}
use Rattle.judging.specs.Room.{Holds, LineFrom, ToldIn, Within, key_of, lead_at, lead_number, start_at, theirs, told_at, told_number}
use Rattle.judging.specs.Steps.{Asking}
use Rattle.std.proofs.Common.{None, Option, Some}
use Rattle.judging.specs.Ways.{Leads, Tells, Way}

-- what holds of a sound plate's rows, mask and length
pub of-plate : (P : List ℕ → ℕ → ℕ → Type 0) {rows : List ℕ} {mask n : ℕ} (o : OfPlate rows mask n) → P (rows_of o.plate) o.plate.mask o.plate.n
    → P rows mask n
of-plate P {rows} {mask} {n} o p =
    subst (λ (r : List ℕ). P r mask n) o.rows_are
    (subst (λ (m : ℕ). P (rows_of o.plate) m n) o.mask_is (subst (P (rows_of o.plate) o.plate.mask) o.length_is p))

module _ {rows : List ℕ} {mask n : ℕ} (o : OfPlate rows mask n) where
  -- the section that the code finds
  pub section-is : (t : ℕ) → t < n → (c : Section) → c ≡ held (section_of rows t) → c ≡ section_of rows t
  section-is t h c e =
      of-plate (λ (r : List ℕ) (k m : ℕ). t < m → c ≡ held (section_of r t) → c ≡ section_of r t) o (λ h e. found o.sound t h c e) h e

  pub section-small : (t : ℕ) → t < n → (c : Section) → c ≡ held (section_of rows t) → Small c
  section-small t h c e =
      of-plate (λ (r : List ℕ) (k m : ℕ). t < m → c ≡ held (section_of r t) → Small c) o
      (λ h e. record { live = (found-live o.sound t h c e).1; ending = found-ending o.sound t h c e }) h e

  pub states-are : (t : ℕ) → t < n → (c : Section) → c ≡ held (section_of rows t) → 2 ^ c.live ≡ (ours rows mask).states t
  states-are t h c e =
      of-plate (λ (r : List ℕ) (k m : ℕ). t < m → c ≡ held (section_of r t) → 2 ^ c.live ≡ (ours r k).states t) o
      (λ h e. ap (λ (x : ℕ). 2 ^ x) (found-live o.sound t h c e).0) h e

  pub end-states : (ours rows mask).states n ≡ 1
  end-states = of-plate (λ (r : List ℕ) (k m : ℕ). (ours r k).states m ≡ 1) o (one_end o.sound)

  pub start-states : (ours rows mask).states 0 ≡ 1
  start-states = of-plate (λ (r : List ℕ) (k m : ℕ). (ours r k).states 0 ≡ 1) o (one-start o.sound)

  pub leads-ours : (t y b : ℕ) → t < n → y ≤ (ours rows mask).states t → b < 2
      → Leads (ours rows mask) t y b (follows (section_of rows t) y (bit_xor b (bit mask t)))
  leads-ours t y b h =
      of-plate (λ (r : List ℕ) (k m : ℕ). t < m → y ≤ (ours r k).states t → b < 2 → Leads (ours r k) t y b (follows (section_of r t) y (bit_xor b (bit k t)))) o
      (λ h. our-leads o.sound t h y b) h

  pub follows-small : (t y b : ℕ) → t < n → y ≤ (ours rows mask).states t → b < 2 → follows (section_of rows t) y b ≤ (ours rows mask).states (suc t)
  follows-small t y b h =
      of-plate (λ (r : List ℕ) (k m : ℕ). t < m → y ≤ (ours r k).states t → b < 2 → follows (section_of r t) y b ≤ (ours r k).states (suc t)) o
      (λ h. our-small o.sound t h y b) h

  pub way-ours : (d t a : ℕ) → t + d ≡ n → a < (ours rows mask).states t → (w : ℕ) × Way (ours rows mask) d t a w
  way-ours d t a = of-plate (λ (r : List ℕ) (k m : ℕ). t + d ≡ m → a < (ours r k).states t → (w : ℕ) × Way (ours r k) d t a w) o (our-way o.sound d t a)

  none_told : (A : Graph) (d t : ℕ) → t + d ≡ n → Tells A (ours rows mask) d t 0 0
  none_told A d t e = of-plate (λ (r : List ℕ) (k m : ℕ). t + d ≡ m → Tells A (ours r k) d t 0 0) o (tells_none o.sound A d t) e

  class-told : (A : Graph) (t : ℕ) → t < n → (x0 x1 x : ℕ) → Classed (section_of rows t) x0 x1 x → (d u u0 u1 : ℕ)
      → Leads A t u (bit_xor 0 (bit mask t)) u0 → Leads A t u (bit_xor 1 (bit mask t)) u1
      → Tells A (ours rows mask) d (suc t) u0 x0 → Tells A (ours rows mask) d (suc t) u1 x1 → Tells A (ours rows mask) (suc d) t u x
  class-told A t h x0 x1 x k d u u0 u1 a0 a1 m0 m1 =
      of-plate (λ (r : List ℕ) (k m : ℕ). t < m → Classed (section_of r t) x0 x1 x → Leads A t u (bit_xor 0 (bit k t)) u0 → Leads A t u (bit_xor 1 (bit k t)) u1
      → Tells A (ours r k) d (suc t) u0 x0 → Tells A (ours r k) d (suc t) u1 x1 → Tells A (ours r k) (suc d) t u x) o
      (λ h k a0 a1 m0 m1. class-tells o.sound A t h x0 x1 x k d u u0 u1 a0 a1 m0 m1) h k a0 a1 m0 m1

  -- ---- the end

  module _ (A : Graph) (t v : ℕ) (e : t ≡ n) where
    at-end : (x : ℕ) → Tells A (ours rows mask) 0 n (suc v) x → Tells A (ours rows mask) (n - t) t (suc v) x
    at-end x p =
        let z : 0 ≡ n - t = omega arith in
        subst (λ (d : ℕ). Tells A (ours rows mask) d t (suc v) x) z (subst (λ (k : ℕ). Tells A (ours rows mask) 0 k (suc v) x) (sym e) p)

    pub end-told : v ≡ 0 → Tells A (ours rows mask) (n - t) t (suc v) 1
    end-told q = at-end 1 (tells-end A (ours rows mask) n (suc v) 1 end-states (λ z. refl) (λ z. absurd (z (ap suc q))))

    pub other-told : (v ≡ 0 → ⊥) → Tells A (ours rows mask) (n - t) t (suc v) 0
    other-told q = at-end 0 (tells-end A (ours rows mask) n (suc v) 0 end-states (λ z. absurd (q (omega (arith, z)))) (λ z. refl))

  -- ---- a line looked up tells of where it leads

  module _ (room : List ℕ) (lines : ℕ) (holds : Holds n lines room) (t : ℕ) (h : t < n) (told : ToldIn n lines rows mask room t) where
    pub line-told : (u b : ℕ) (j : Option ℕ) → u ≤ 1024 → b < 2 → LineFrom room lines t u b j
        → Tells (theirs n lines room) (ours rows mask) (n - suc t) (suc t) (lead_number room j) (told_number room j)
    line-told u b j small two l = go j refl u refl
      where
        go : (o : Option ℕ) → j ≡ o → (w : ℕ) → w ≡ u → Tells (theirs n lines room) (ours rows mask) (n - suc t) (suc t) (lead_number room j) (told_number room j)
        go None p w q = rw p (none_told (theirs n lines room) (n - suc t) (suc t) (omega (arith, h)))
        go (Some i) p zero q = rw (l.none (sym q)) (none_told (theirs n lines room) (n - suc t) (suc t) (omega (arith, h)))
        go (Some i) p (suc v) q =
            let k : start_at room i ≡ key_of t v b = found-start n lines room holds t u b j small two l i v p (sym q) in
            let e : start_at room i / 2048 ≡ t = omega (arith, k, q, small, two) in
            rw p
            (subst (λ (m : ℕ). Tells (theirs n lines room) (ours rows mask) (n - suc m) (suc m) (suc (lead_at room i)) (told_at room i)) e
            (told i (l.there i p) e).tells)

    flipped : (b : ℕ) → b < 2 → bit_xor b (bit mask t) < 2
    flipped b l = xor_lt 1 b (bit mask t) l (bit-lt t mask)

    -- a state by its two lines
    pub state-told : (u : ℕ) (j0 j1 : Option ℕ) (x0 x1 x : ℕ) → u ≤ 1024 → LineFrom room lines t u (bit_xor 0 (bit mask t)) j0
        → LineFrom room lines t u (bit_xor 1 (bit mask t)) j1 → x0 ≡ told_number room j0 → x1 ≡ told_number room j1
        → (c : Section) → c ≡ held (section_of rows t) → Classed c x0 x1 x → Tells (theirs n lines room) (ours rows mask) (n - t) t u x
    state-told u j0 j1 x0 x1 x small l0 l1 e0 e1 c ec k =
        let z : suc (n - suc t) ≡ n - t = omega (arith, h) in
        let A = theirs n lines room in
        subst (λ (d : ℕ). Tells (theirs n lines room) (ours rows mask) d t u x) z
        (class-told (theirs n lines room) t h x0 x1 x (subst (λ (c : Section). Classed c x0 x1 x) (section-is t h c ec) k) (n - suc t) u
        (lead_number room j0) (lead_number room j1)
        (line-leads n lines room holds t u (bit_xor 0 (bit mask t)) j0 small (flipped 0 (omega arith)) l0)
        (line-leads n lines room holds t u (bit_xor 1 (bit mask t)) j1 small (flipped 1 (omega arith)) l1)
        (subst (Tells (theirs n lines room) (ours rows mask) (n - suc t) (suc t) (lead_number room j0)) (sym e0) (line-told u (bit_xor 0 (bit mask t)) j0 small (flipped 0 (omega arith)) l0))
        (subst (Tells (theirs n lines room) (ours rows mask) (n - suc t) (suc t) (lead_number room j1)) (sym e1) (line-told u (bit_xor 1 (bit mask t)) j1 small (flipped 1 (omega arith)) l1)))

    -- the same by the bit that the code found in the mask
    pub state-told-by : {flip : ℕ} → flip ≡ bit mask t → (u : ℕ) (j0 j1 : Option ℕ) (x0 x1 x : ℕ) → u ≤ 1024 → LineFrom room lines t u flip j0
        → LineFrom room lines t u (bit_xor 1 flip) j1 → x0 ≡ told_number room j0 → x1 ≡ told_number room j1
        → (c : Section) → c ≡ held (section_of rows t) → Classed c x0 x1 x → Tells (theirs n lines room) (ours rows mask) (n - t) t u x
    state-told-by q u j0 j1 x0 x1 x small l0 l1 =
        state-told u j0 j1 x0 x1 x small (subst (λ (b : ℕ). LineFrom room lines t u b j0) q l0) (subst (λ (b : ℕ). LineFrom room lines t u (bit_xor 1 b) j1) q l1)

-- what looking up the two lines of a state asks
module _ {rows : List ℕ} {mask n : ℕ} {room : List ℕ} {lines t state flip : ℕ} (a : Asking rows mask n room lines t) (left : t ≡ n → ⊥) (small : state < 1024)
    (is : flip ≡ bit mask t) where
  asks : (b : ℕ) → b < 2 → (length room ≡ 4 * lines) × Within t (state + 1 - 1) b
  asks b two = (a.ready.holds.size, record { depth_small = omega (arith, a.ready.holds.short, a.within, left); state_small = omega (arith, small); bit_small = two })

  pub line-asks : (length room ≡ 4 * lines) × Within t (state + 1 - 1) flip
  line-asks = asks flip (omega (arith, is, bit-lt t mask))

  pub line-asks-other : (length room ≡ 4 * lines) × Within t (state + 1 - 1) (bit_xor 1 flip)
  line-asks-other = asks (bit_xor 1 flip) (xor_lt 1 1 flip (omega arith) (omega (arith, is, bit-lt t mask)))
