-- Digits packed into a word and taken apart by shifts and masks: what the code's bit operations are in numbers.
use lib.Bits.{and_mask, and_step, bit_and, bit_or, bit_xor, or_shifted, or_shifted_r, or_zero_r, xor_add_and, xor_self, xor_zero_l, xor_zero_r}
use mathlib.Core.Bool.{Bool, cond, false, true}
use mathlib.Core.Path.{ap, sym, ◌∙◌, ◌≡◌}
use native.Mathlib.Nat.{mod-eq_of_lt, mul_assoc, one-mul, pow-suc}
use native.Mathlib.Omega.{arith}
use Prim.Native.Nat.{◌%◌, ◌*◌, ◌+◌, ◌-◌, ◌/◌, ◌<◌, ◌^◌, min, suc, zero, ℕ}
use Rattle.trellises.proofs.AmongRows.{shifted_one}
use Rattle.words.proofs.Word.{bit-div}
use Rattle.words.specs.Word.{bit}

-- ---- taken apart

-- digit i of a word
pub digit-masked : (w i : ℕ) → bit_and (w / 2 ^ i) 1 ≡ bit w i
digit-masked w i = and_mask (w / 2 ^ i) 1 ∙ sym (bit-div i w)

-- what a word has in common with a one at j
one_in : (j w : ℕ) → bit_and w (2 ^ j) ≡ bit w j * 2 ^ j
one_in zero w = omega (arith, and_mask w 1)
one_in (suc j) w =
    let twice : 2 ^ suc j ≡ 2 ^ j * 2 = omega (arith, pow-suc 2 j) in
    let half : 2 ^ suc j / 2 ≡ 2 ^ j = omega arith in
    let none : min (w % 2) (2 ^ suc j % 2) ≡ 0 = omega arith in
    let above : bit_and (w / 2) (2 ^ suc j / 2) ≡ bit (w / 2) j * 2 ^ j = ap (bit_and (w / 2)) half ∙ one_in j (w / 2) in
    let whole : bit (w / 2) j * 2 ^ suc j ≡ bit (w / 2) j * 2 ^ j * 2 = ap (λ (x : ℕ). bit (w / 2) j * x) twice ∙ sym (mul_assoc (bit (w / 2) j) (2 ^ j) 2) in
    omega (arith, and_step w (2 ^ suc j))

-- a one of a word taken off it
pub one-off : (w j : ℕ) → j < 64 → bit w j ≡ 1 → bit_xor w (1 * 2 ^ j % 2 ^ 64) ≡ w - 2 ^ j
one-off w j h e =
    let common : bit_and w (2 ^ j) ≡ 2 ^ j = one_in j w ∙ ap (λ (d : ℕ). d * 2 ^ j) e ∙ one-mul (2 ^ j) in
    let less : bit_xor w (2 ^ j) ≡ w - 2 ^ j = omega (arith, xor_add_and w (2 ^ j)) in
    ap (bit_xor w) (shifted_one j h) ∙ less

-- ---- put together

-- the sum of two digits
pub xor-digits : (d e : ℕ) → d < 2 → e < 2 → bit_xor d e ≡ (d + e) % 2
xor-digits zero e h g = xor_zero_l e ∙ same
  where
    same : e ≡ (0 + e) % 2
    same = omega arith
xor-digits (suc zero) zero h g = xor_zero_r 1
xor-digits (suc zero) (suc zero) h g = xor_self 1
xor-digits (suc zero) (suc (suc e)) h g = absurd (omega arith)
xor-digits (suc (suc d)) e h g = absurd (omega arith)

-- a word shifted up by n digits, and n digits below it
pub packed-below : (n v r : ℕ) → v * 2 ^ n < 2 ^ 64 → r < 2 ^ n → bit_or (v * 2 ^ n % 2 ^ 64) r ≡ v * 2 ^ n + r
packed-below n v r h l = ap (λ (x : ℕ). bit_or x r) (mod-eq_of_lt h) ∙ or_shifted v n r l

-- a one at j, or none, above the digits below j
pub packed_above : (j w : ℕ) → w < 2 ^ j → (t : Bool) → bit_or w (cond t (2 ^ j) 0) ≡ w + cond t (2 ^ j) 0
packed_above j w h true =
    let e : 1 * 2 ^ j ≡ 2 ^ j = omega arith in
    let f : 1 * 2 ^ j + w ≡ w + 2 ^ j = omega arith in
    ap (bit_or w) (sym e) ∙ or_shifted_r 1 j w h ∙ f
packed_above j w h false = or_zero_r w ∙ same
  where
    same : w ≡ w + 0
    same = omega arith
