-- A bit by its mask, and a table of two halves filled entry by entry.
use borrow.Author.Tests.{eq-eqb, ne_eqb}
use lib.Bits.{and_high, bit_and}
use lib.Dec.{eqb}
use lib.IntN.{pos, ℤ}
use lib.ListN.{get_or, length, length-set, set}
use lib.Pow.{pow_pos}
use lib.Seq.{get_or-set_other, get_or-set_same}
use mathlib.Core.Bool.{cond}
use mathlib.Core.List.{List}
use mathlib.Core.Logic.{⊎_elim}
use mathlib.Core.Path.{ap, sym, ◌∙◌, ◌≡◌}
use native.Mathlib.Nat.{pow-suc}
use native.Mathlib.Numerals.{one-add}
use native.Mathlib.Omega.{arith}
use Prim.Native.Nat.{◌*◌, ◌+◌, ◌-◌, ◌<◌, ◌^◌, suc, zero, zero-le, ℕ, ◌≤◌}
use Rattle.decoding.proofs.Parts.{below_or}
use Rattle.decoding.specs.Tables.{Entered, Tables, turned_bit}
use Rattle.decoding.specs.Taking.{signed}
use Rattle.words.proofs.Word.{bit-div, bit-lt}
use Rattle.words.specs.Word.{bit}

-- ---- a bit by its mask

power-mask : (i : ℕ) → 2 ^ i ≡ 2 ^ (1 + i) - 2 ^ i
power-mask i = omega (arith, ap (λ (x : ℕ). 2 ^ x) (one-add i), pow-suc 2 i)

mask_is : (w i : ℕ) → bit_and w (2 ^ i) ≡ bit w i * 2 ^ i
mask_is w i = ap (bit_and w) (power-mask i) ∙ and_high w 1 i ∙ ap (λ (d : ℕ). d * 2 ^ i) (sym (bit-div i w))

pub digit-is : (w i m d : ℕ) → m ≡ 2 ^ i → d ≡ cond (eqb (bit_and w m) 0) 0 1 → d ≡ bit w i
digit-is w i m d em ed = ed ∙ ap (λ (x : ℕ). cond (eqb x 0) 0 1) (ap (bit_and w) em ∙ mask_is w i) ∙ go (bit w i) (bit-lt i w)
  where
    go : (b : ℕ) → b < 2 → cond (eqb (b * 2 ^ i) 0) 0 1 ≡ b
    go zero l = let e : 0 * 2 ^ i ≡ 0 = omega arith in rw (eq-eqb (0 * 2 ^ i) 0 e)
    go (suc zero) l = rw (ne_eqb (1 * 2 ^ i) 0 (λ z. omega (arith, pow_pos i)))
    go (suc (suc b)) l = absurd (omega arith)

-- ---- a table of 64: g 0 in its first half, and g 1 in its second

module _ (g : ℕ → ℕ → ℤ) where
  pub record Halves (n : ℕ) (l : List ℤ) : Type 0 where
    pub size : length l ≡ 64
    pub entry : (h i : ℕ) → h < 2 → i < n → get_or l (h * 32 + i) (pos 0) ≡ g h i

  pub halves-none : (l : List ℤ) → length l ≡ 64 → Halves 0 l
  halves-none l e = record { size = e; entry = λ h i a b. absurd (omega arith) }

  module _ (i : ℕ) (l : List ℤ) (p : Halves i l) (m : i < 32) (a b : ℤ) (ea : a ≡ g 0 i) (eb : b ≡ g 1 i) where
    after : (h j : ℕ) → h < 2 → j < i + 1 → get_or (set (set l i a) (i + 32) b) (h * 32 + j) (pos 0) ≡ g h j
    after h j hh hj = ⊎_elim (old h j hh) (λ w. new h hh j (omega (arith, w.1.0, w.1.1))) (below_or i 1 j hj)
      where
        old : (h j : ℕ) → h < 2 → j < i → get_or (set (set l i a) (i + 32) b) (h * 32 + j) (pos 0) ≡ g h j
        old h j hh hj =
            get_or-set_other (set l i a) (i + 32) (h * 32 + j) b (pos 0) (λ z. omega arith)
            ∙ get_or-set_other l i (h * 32 + j) a (pos 0) (λ z. omega arith) ∙ p.entry h j hh hj

        new : (h : ℕ) → h < 2 → (j : ℕ) → j ≡ i → get_or (set (set l i a) (i + 32) b) (h * 32 + j) (pos 0) ≡ g h j
        new zero hh j e =
            let z : 0 * 32 + i ≡ i = omega arith in
            rw (e, z) (get_or-set_other (set l i a) (i + 32) i b (pos 0) (λ w. omega arith) ∙ get_or-set_same l i a (pos 0) (omega (arith, p.size)) ∙ ea)
        new (suc zero) hh j e =
            let z : 1 * 32 + i ≡ i + 32 = omega arith in
            rw (e, z) (get_or-set_same (set l i a) (i + 32) b (pos 0) (simp length-set (omega (arith, p.size))) ∙ eb)
        new (suc (suc h)) hh j e = absurd (omega arith)

    pub halves-more : (l' : List ℤ) → l' ≡ set (set l i a) (i + 32) b → Halves (i + 1) l'
    halves-more l' e = rw e (record { size = simp length-set p.size; entry = after })

-- ---- the tables of signs and ties

other-bit : (w i : ℕ) → 1 - bit w i ≡ turned_bit w 1 i
other-bit w i = omega (arith, bit-lt i w)

this-bit : (w i : ℕ) → bit w i ≡ turned_bit w 0 i
this-bit w i = omega (arith, bit-lt i w)

module _ (w : ℕ) (y : ℤ) where
  -- the first n bits are entered
  pub record Filled (n : ℕ) (signs ties : List ℤ) : Type 0 where
    pub within : n ≤ 32
    pub sign : Halves (λ h i. signed (turned_bit w h i) y) n signs
    pub tie : Halves (λ h i. pos (turned_bit w h i)) n ties

  pub filled_none : (signs ties : List ℤ) → length signs ≡ 64 → length ties ≡ 64 → Filled 0 signs ties
  filled_none signs ties es et = record { within = zero-le; sign = halves-none _ signs es; tie = halves-none _ ties et }

  pub filled_more : (i d : ℕ) (signs ties : List ℤ) → Filled i signs ties → i < 32 → d ≡ bit w i → (signs' ties' : List ℤ)
      → Entered signs ties i d y signs' ties' → Filled (i + 1) signs' ties'
  filled_more i d signs ties f l ed signs' ties' e = record {
    within = omega arith;
    sign = halves-more _ i signs f.sign l _ _ (ap (λ (n : ℕ). signed n y) (ed ∙ this-bit w i))
        (ap (λ (n : ℕ). signed n y) (ap (λ (n : ℕ). 1 - n) ed ∙ other-bit w i)) signs' e.sign;
    tie = halves-more _ i ties f.tie l _ _ (ap pos (ed ∙ this-bit w i)) (ap pos (ap (λ (n : ℕ). 1 - n) ed ∙ other-bit w i)) ties' e.tie;
  }

  pub filled-all : (i : ℕ) (signs ties : List ℤ) → Filled i signs ties → 32 ≤ i → Tables w y signs ties
  filled-all i signs ties f l =
      let e : i ≡ 32 = omega (arith, f.within) in
      record {
        signs_size = f.sign.size;
        ties_size = f.tie.size;
        sign = λ h j a b. f.sign.entry h j a (omega arith);
        tie = λ h j a b. f.tie.entry h j a (omega arith);
      }
