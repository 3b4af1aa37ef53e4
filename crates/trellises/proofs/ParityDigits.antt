-- The parity of two words, digit by digit.
use lib.Bits.{and_block, and_lt, bit_and}
use lib.Count.{ones, ones_cat, ones_in}
use mathlib.Core.Path.{ap, ap₂, refl, sym, ◌∙◌, ◌≡◌}
use native.Mathlib.Nat.{pow-suc}
use native.Mathlib.Omega.{arith}
use Prim.Native.Nat.{◌%◌, ◌*◌, ◌+◌, ◌/◌, ◌<◌, ◌^◌, min, suc, zero, ℕ}
use Rattle.words.proofs.Parity.{parity-comm, parity-zero}
use Rattle.words.specs.Parity.{parity}
use Rattle.words.specs.Word.{bit}

digit_ones : (d e : ℕ) → d < 2 → e < 2 → ones (bit_and d e) ≡ min d e
unfolding ones ones_in
digit_ones zero e hd he = omega arith
digit_ones (suc zero) zero hd he = refl
digit_ones (suc zero) (suc zero) hd he = refl
digit_ones (suc zero) (suc (suc e)) hd he = absurd (omega arith)
digit_ones (suc (suc d)) e hd he = absurd (omega arith)

-- the lowest digits of two words, and what stands above them
pub parity-digits : (x y d e : ℕ) → d < 2 → e < 2 → parity (x * 2 + d) (y * 2 + e) ≡ (min d e + parity x y) % 2
parity-digits x y d e hd he =
    let a : ones (bit_and (x * 2 + d) (y * 2 + e)) ≡ ones (bit_and x y) + ones (bit_and d e) =
    ap ones (and_block 1 x y d e hd he) ∙ ones_cat 1 (bit_and x y) (bit_and d e) (and_lt 1 d e hd he) in
    let b : ones (bit_and d e) ≡ min d e = digit_ones d e hd he in
    omega arith

-- the parity with a power of 2 is the digit there
pub parity-power : (i y : ℕ) → parity (2 ^ i) y ≡ bit y i
parity-power zero y =
    let e : y / 2 * 2 + y % 2 ≡ y = omega arith in
    let h : parity 1 y ≡ (min 1 (y % 2) + parity 0 (y / 2)) % 2 =
    ap (parity 1) (sym e) ∙ parity-digits 0 (y / 2) 1 (y % 2) (omega arith) (omega arith) in
    omega (arith, parity-comm 0 (y / 2), parity-zero (y / 2))
parity-power (suc i) y =
    let e : y / 2 * 2 + y % 2 ≡ y = omega arith in
    let p : 2 ^ suc i ≡ 2 ^ i * 2 + 0 = omega (arith, pow-suc 2 i) in
    let h : parity (2 ^ suc i) y ≡ (min 0 (y % 2) + parity (2 ^ i) (y / 2)) % 2 =
    ap₂ parity p (sym e) ∙ parity-digits (2 ^ i) (y / 2) 0 (y % 2) (omega arith) (omega arith) in
    omega (arith, parity-power i (y / 2))
