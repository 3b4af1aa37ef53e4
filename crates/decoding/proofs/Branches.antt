-- A state's branches: the two have different bits, and what the code chooses is what the definition says.
use borrow.Author.Tests.{ne_eqb}
use lib.Bits.{and_block, and_comm, and_lt, and_mask, and_zero_l, bit_and}
use lib.Count.{ones, ones_cat, ones-ones}
use lib.IntN.{◌+ℤ◌, +ℤ_comm, +ℤ_idr, ◌-ℤ◌, neg_ℤ, neg_ℤ-neg_ℤ, pos, ℤ}
use lib.Pow.{pow_pos, split}
use lib.Signed.{lt_z}
use mathlib.Core.Bool.{Bool, cond, false, true}
use mathlib.Core.Path.{ap, sym, ◌∙◌, ◌≡◌}
use native.Mathlib.Nat.{add_comm, mod-lt, one-mul, zero-add, zero-mul}
use native.Mathlib.Omega.{arith}
use Prim.Native.Nat.{◌%◌, ◌*◌, ◌+◌, ◌/◌, ◌<◌, ◌^◌, suc, zero, ℕ}
use Rattle.decoding.proofs.Integers.{tie-one}
use Rattle.decoding.specs.Choosing.{takes_second}
use Rattle.decoding.specs.Stepping.{SectionFits}
use Rattle.decoding.specs.Taking.{at_state, preferred, signed, taking}
use Rattle.trellises.specs.declared.Section.{Section}
use Rattle.trellises.specs.Numbers.{bit_of, leads_to}
use Rattle.words.proofs.Word.{bit-div}
use Rattle.words.specs.Parity.{parity}
use Rattle.words.specs.Word.{bit}

-- ---- the two branches of a state differ in their bits, since the row that begins has a one here

module _ (column k i : ℕ) (hi : i < 2 ^ k) (hc : bit column k ≡ 1) where
  abbrev rest : ℕ
  rest = bit_and i (column % 2 ^ k)

  rest_lt : rest < 2 ^ k
  rest_lt = and_lt k i (column % 2 ^ k) hi (mod-lt column (pow_pos k))

  of-first : bit_and i column ≡ rest
  of-first =
      ap (λ (n : ℕ). bit_and i n) (sym (split column k))
      ∙ ap (λ (n : ℕ). bit_and n (column / 2 ^ k * 2 ^ k + column % 2 ^ k)) (sym (ap (λ (n : ℕ). n + i) (zero-mul (2 ^ k)) ∙ zero-add i))
      ∙ and_block k 0 (column / 2 ^ k) i (column % 2 ^ k) hi (mod-lt column (pow_pos k))
      ∙ ap (λ (n : ℕ). n * 2 ^ k + rest) (and_zero_l (column / 2 ^ k)) ∙ ap (λ (n : ℕ). n + rest) (zero-mul (2 ^ k)) ∙ zero-add rest

  one_there : bit_and 1 (column / 2 ^ k) ≡ 1
  one_there = and_comm 1 (column / 2 ^ k) ∙ and_mask (column / 2 ^ k) 1 ∙ sym (bit-div k column) ∙ hc

  of-second : ones (bit_and (i + 2 ^ k) column) ≡ 1 + ones rest
  of-second =
      ap (λ (n : ℕ). ones (bit_and (i + 2 ^ k) n)) (sym (split column k))
      ∙ ap (λ (n : ℕ). ones (bit_and n (column / 2 ^ k * 2 ^ k + column % 2 ^ k))) (add_comm i (2 ^ k) ∙ ap (λ (n : ℕ). n + i) (sym (one-mul (2 ^ k))))
      ∙ ap ones (and_block k 1 (column / 2 ^ k) i (column % 2 ^ k) hi (mod-lt column (pow_pos k)))
      ∙ ap (λ (n : ℕ). ones (n * 2 ^ k + rest)) one_there ∙ ones_cat k 1 rest rest_lt ∙ ap (λ (n : ℕ). n + ones rest) (ones-ones 1)

  pub differing : parity (i + 2 ^ k) column + parity i column ≡ 1
  differing = omega (arith, of-second, ap ones of-first)

-- ---- with bits p and d that differ, the second branch is preferred where the code takes it

opposite : (p d : ℕ) → d + p ≡ 1 → (b y : ℤ) → b -ℤ signed p y ≡ signed d y +ℤ b
opposite zero zero e b y = absurd (omega arith)
opposite zero (suc d) e b y = +ℤ_comm b (neg_ℤ y)
opposite (suc p) zero e b y = ap (λ (z : ℤ). b +ℤ z) (neg_ℤ-neg_ℤ y) ∙ +ℤ_comm b y
opposite (suc p) (suc d) e b y = absurd (omega arith)

prefers : (p d : ℕ) → d + p ≡ 1 → (u v : ℤ) → preferred v d u ≡ lt_z u (v +ℤ pos p)
prefers zero zero e u v = absurd (omega arith)
prefers zero (suc d) e u v = rw (ne_eqb (suc d) 0 (omega arith), +ℤ_idr v)
prefers (suc p) zero e u v = let z : suc p ≡ 1 = omega arith in rw z (sym (tie-one u v))
prefers (suc p) (suc d) e u v = absurd (omega arith)

digit-of : (t : Bool) (p d n : ℕ) → d + p ≡ 1 → n ≡ cond t 1 0 → (n + p) % 2 ≡ cond t d p
digit-of true p d n e h = omega arith
digit-of false p d n e h = omega arith

module _ (c : Section) (y : ℤ) (old : ℕ → ℤ) (i : ℕ) where
  -- the metrics where the branches lead, and what the first one's bit adds
  abbrev pub near_at : ℤ
  near_at = old (leads_to c i)

  abbrev pub far_at : ℤ
  far_at = old (leads_to c (i + 2 ^ c.live))

  abbrev pub sign_at : ℤ
  sign_at = signed (bit_of c i) y

  abbrev pub tie_at : ℤ
  tie_at = pos (bit_of c i)

  -- a state that one branch leaves
  pub alone-is : c.begins ≡ false → at_state c y old i ≡ taking c y old i
  alone-is e = rw e

  -- a state that two branches leave
  module _ (e : c.begins ≡ true) (h : SectionFits c) (l : i < 2 ^ c.live) where
    differ-here : bit_of c (i + 2 ^ c.live) + bit_of c i ≡ 1
    differ-here = differing c.column c.live i l (h.begun e)

    prefer-here : preferred (signed (bit_of c (i + 2 ^ c.live)) y +ℤ far_at) (bit_of c (i + 2 ^ c.live)) (sign_at +ℤ near_at) ≡ takes_second near_at far_at sign_at tie_at
    prefer-here =
        prefers (bit_of c i) (bit_of c (i + 2 ^ c.live)) differ-here (sign_at +ℤ near_at) (signed (bit_of c (i + 2 ^ c.live)) y +ℤ far_at)
        ∙ ap (λ (v : ℤ). lt_z (sign_at +ℤ near_at) (v +ℤ tie_at)) (sym (opposite (bit_of c i) (bit_of c (i + 2 ^ c.live)) differ-here far_at y))

    pub two-metric : (at_state c y old i).metric ≡ cond (takes_second near_at far_at sign_at tie_at) (far_at -ℤ sign_at) (sign_at +ℤ near_at)
    two-metric = rw (e, prefer-here, opposite (bit_of c i) (bit_of c (i + 2 ^ c.live)) differ-here far_at y)

    pub two-bit : (n : ℕ) → n ≡ cond (takes_second near_at far_at sign_at tie_at) 1 0 → (n + bit_of c i) % 2 ≡ (at_state c y old i).bit
    two-bit n en = rw (e, prefer-here) (digit-of (takes_second near_at far_at sign_at tie_at) (bit_of c i) (bit_of c (i + 2 ^ c.live)) n differ-here en)
