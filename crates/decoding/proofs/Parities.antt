-- The parities of 64 numbers as one word: by three digits and three, and another block of 64 turns all or none.
use lib.Bits.{and_block, and_lt, and_zero_l, bit_and, bit_xor, differ}
use lib.Count.{ones, ones_cat}
use lib.Pow.{pow_pos}
use mathlib.Core.Path.{ap, ap₂, sym, ◌∙◌, ◌≡◌}
use native.Mathlib.Nat.{add_comm, div-add-mod', mod-lt}
use native.Mathlib.Omega.{arith}
use Prim.Native.Nat.{◌%◌, ◌*◌, ◌+◌, ◌/◌, ◌<◌, ◌^◌, ℕ}
use Rattle.decoding.proofs.TablesChecked.{full}
use Rattle.decoding.specs.Patterns.{HighPattern, LowPattern, Pattern, TurnFits, Turned}
use Rattle.words.proofs.Parity.{differ-mod}
use Rattle.words.proofs.Word.{bit-xor}
use Rattle.words.specs.Parity.{parity}
use Rattle.words.specs.Word.{bit}

mod-left : (a b : ℕ) → (a % 2 + b) % 2 ≡ (a + b) % 2
mod-left a b = omega arith

mod-right : (a b : ℕ) → (a + b % 2) % 2 ≡ (a + b) % 2
mod-right a b = omega arith

-- ---- another block of 2 ^ b numbers

-- the ones in common of number i of block k: those of the block above digit b, and those of i below
block-ones : (b k i column : ℕ) → i < 2 ^ b
    → ones (bit_and (k * 2 ^ b + i) column) ≡ ones (bit_and k (column / 2 ^ b)) + ones (bit_and i (column % 2 ^ b))
block-ones b k i column h =
    let r : column % 2 ^ b < 2 ^ b = mod-lt column (pow_pos b) in
    ap (λ (z : ℕ). ones (bit_and (k * 2 ^ b + i) z)) (sym (div-add-mod' column (2 ^ b)))
    ∙ ap ones (and_block b k (column / 2 ^ b) i (column % 2 ^ b) h r)
    ∙ ones_cat b (bit_and k (column / 2 ^ b)) (bit_and i (column % 2 ^ b)) (and_lt b i (column % 2 ^ b) h r)

ones_none : (b : ℕ) → ones (bit_and 0 b) ≡ 0
unfolding ones
ones_none b = ap ones (and_zero_l b)

-- so a number's parity is its block's own and its place's
pub block-parity : (b k i column : ℕ) → i < 2 ^ b → parity (k * 2 ^ b + i) column ≡ (parity (k * 2 ^ b) column + parity i column) % 2
block-parity b k i column h =
    let d : k * 2 ^ b + 0 ≡ k * 2 ^ b = omega arith in
    let e : 0 * 2 ^ b + i ≡ i = omega arith in
    let f : ones (bit_and (k * 2 ^ b) column) ≡ ones (bit_and k (column / 2 ^ b)) =
    ap (λ (x : ℕ). ones (bit_and x column)) (sym d) ∙ block-ones b k 0 column (pow_pos b) ∙ omega (arith, ones_none (column % 2 ^ b)) in
    let c : ones (bit_and i column) ≡ ones (bit_and i (column % 2 ^ b)) =
    ap (λ (x : ℕ). ones (bit_and x column)) (sym e) ∙ block-ones b 0 i column h ∙ omega (arith, ones_none (column / 2 ^ b)) in
    let s : ones (bit_and (k * 2 ^ b + i) column) ≡ ones (bit_and (k * 2 ^ b) column) + ones (bit_and i column) = omega (arith, block-ones b k i column h) in
    ap (λ (x : ℕ). x % 2) s ∙ sym (mod-left (ones (bit_and (k * 2 ^ b) column)) (ones (bit_and i column)))
    ∙ sym (mod-right (parity (k * 2 ^ b) column) (ones (bit_and i column)))

-- ---- the digits of 64 numbers, three and three

three-and-three : (i column : ℕ) → i < 64 → parity i column ≡ (parity (i % 8) (column % 8) + parity (i / 8) (column / 8 % 8)) % 2
three-and-three i column l =
    let e : i / 8 * 2 ^ 3 + i % 8 ≡ i = omega arith in
    let f : 0 * 2 ^ 3 + i / 8 ≡ i / 8 = omega arith in
    let s : ones (bit_and i column) ≡ ones (bit_and (i / 8) (column / 8)) + ones (bit_and (i % 8) (column % 8)) =
    ap (λ (x : ℕ). ones (bit_and x column)) (sym e) ∙ block-ones 3 (i / 8) (i % 8) column (omega arith) in
    let t : ones (bit_and (i / 8) (column / 8)) ≡ ones (bit_and (i / 8) (column / 8 % 8)) =
    ap (λ (x : ℕ). ones (bit_and x (column / 8))) (sym f) ∙ block-ones 3 0 (i / 8) (column / 8) (omega arith) ∙ omega (arith, ones_none (column / 8 / 2 ^ 3)) in
    omega (arith, s, t)

pub pattern-is : {column d e a b : ℕ} → d ≡ column % 8 → e ≡ column / 8 % 8 → LowPattern d a → HighPattern e b → Pattern column (bit_xor a b)
pattern-is {column} {d} {e} {a} {b} ed ee low high = record { bits = bits }
  where
    bits : (i : ℕ) → i < 64 → bit (bit_xor a b) i ≡ parity i column
    bits i l =
        bit-xor i a b ∙ ap₂ differ (low.bits i l ∙ ap (parity (i % 8)) ed) (high.bits i l ∙ ap (parity (i / 8)) ee)
        ∙ differ-mod (parity (i % 8) (column % 8)) (parity (i / 8) (column / 8 % 8)) (omega arith) (omega arith)
        ∙ sym (three-and-three i column l)

-- ---- the other blocks of 64

module _ (w column first : ℕ) (h : TurnFits w column first) where
  first-parity : (i : ℕ) → i < 64 → parity (first + i) column ≡ (parity first column + parity i column) % 2
  first-parity i l = rw h.aligned (block-parity 6 h.block i column l)

  pub kept : parity first column ≡ 0 → Turned column first w
  kept e = record { bits = λ i l. h.pattern.bits i l ∙ sym (first-parity i l ∙ ap (λ (x : ℕ). (x + parity i column) % 2) e ∙ mod-one i) }
    where
      mod-one : (i : ℕ) → (0 + parity i column) % 2 ≡ parity i column
      mod-one i = omega arith

  pub turned-over : (parity first column ≡ 0 → ⊥) → Turned column first (bit_xor w 0xFFFFFFFFFFFFFFFF)
  turned-over n = record { bits = bits }
    where
      bits : (i : ℕ) → i < 64 → bit (bit_xor w 0xFFFFFFFFFFFFFFFF) i ≡ parity (first + i) column
      bits i l =
          let o : parity first column ≡ 1 = omega arith in
          bit-xor i w 0xFFFFFFFFFFFFFFFF ∙ ap₂ differ (h.pattern.bits i l) (full i l) ∙ differ-mod (parity i column) 1 (omega arith) (omega arith)
          ∙ sym (first-parity i l ∙ ap (λ (x : ℕ). (x + parity i column) % 2) o ∙ ap (λ (x : ℕ). x % 2) (add_comm 1 (parity i column)))
