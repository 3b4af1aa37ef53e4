-- The parity of a word with another is linear in each.
use lib.Arith.{bin_ind, digits_div, digits_mod}
use lib.Bits.{and_comm, and_step, and_zero_l, and_zero_r, bit_and, bit_xor, differ}
use lib.Count.{ones, ones_step}
use mathlib.Core.Path.{ap, ap₂, refl, sym, ◌∙◌, ◌≡◌}
use native.Mathlib.Nat.{pow-suc}
use native.Mathlib.Omega.{arith}
use Prim.Native.Nat.{◌%◌, ◌*◌, ◌+◌, ◌/◌, ◌<◌, ◌^◌, min, suc, zero, ℕ}
use Rattle.words.proofs.Word.{xor-half, xor-odd}
use Rattle.words.specs.Parity.{parity}
use Rattle.words.specs.Word.{bit}

pub and-odd : (a b : ℕ) → bit_and a b % 2 ≡ min (a % 2) (b % 2)
and-odd a b = rw (and_step a b) (digits_mod (bit_and (a / 2) (b / 2)) (omega arith))

pub and-half : (a b : ℕ) → bit_and a b / 2 ≡ bit_and (a / 2) (b / 2)
and-half a b = rw (and_step a b) (digits_div (bit_and (a / 2) (b / 2)) (omega arith))

pub parity-step : (a b : ℕ) → parity a b ≡ (min (a % 2) (b % 2) + parity (a / 2) (b / 2)) % 2
parity-step a b =
    let e : ones (bit_and a b) ≡ min (a % 2) (b % 2) + ones (bit_and (a / 2) (b / 2)) =
    ones_step (bit_and a b) ∙ ap₂ (λ (x y : ℕ). x + ones y) (and-odd a b) (and-half a b) in
    omega arith

pub parity-comm : (a b : ℕ) → parity a b ≡ parity b a
parity-comm a b = ap (λ (x : ℕ). ones x % 2) (and_comm a b)

pub parity-zero-left : (b : ℕ) → parity 0 b ≡ 0
unfolding ones
parity-zero-left b = ap (λ (x : ℕ). ones x % 2) (and_zero_l b)

pub parity-zero : (a : ℕ) → parity a 0 ≡ 0
unfolding ones
parity-zero a = ap (λ (x : ℕ). ones x % 2) (and_zero_r a)

pub differ-mod : (x y : ℕ) → x < 2 → y < 2 → differ x y ≡ (x + y) % 2
differ-mod zero y hx hy = omega arith
differ-mod (suc zero) zero hx hy = refl
differ-mod (suc zero) (suc zero) hx hy = refl
differ-mod (suc zero) (suc (suc y)) hx hy = absurd (omega arith)
differ-mod (suc (suc x)) y hx hy = absurd (omega arith)

min-differ : (x y z : ℕ) → x < 2 → y < 2 → z < 2 → min (differ x y) z ≡ (min x z + min y z) % 2
min-differ zero y z hx hy hz = omega arith
min-differ (suc zero) zero z hx hy hz = omega arith
min-differ (suc zero) (suc zero) z hx hy hz = omega arith
min-differ (suc zero) (suc (suc y)) z hx hy hz = absurd (omega arith)
min-differ (suc (suc x)) y z hx hy hz = absurd (omega arith)

mods : (a b : ℕ) → (a % 2 + b % 2) % 2 ≡ (a + b) % 2
mods a b = omega arith

mod-four : (p q s t : ℕ) → ((p + q) % 2 + (s + t) % 2) % 2 ≡ ((p + s) % 2 + (q + t) % 2) % 2
mod-four p q s t = mods (p + q) (s + t) ∙ ap (λ (x : ℕ). x % 2) (omega arith) ∙ sym (mods (p + s) (q + t))

-- linear in each argument
parity-sum : (c a b : ℕ) → parity (bit_xor a b) c ≡ (parity a c + parity b c) % 2
parity-sum =
    bin_ind (λ (c : ℕ). (a b : ℕ) → parity (bit_xor a b) c ≡ (parity a c + parity b c) % 2)
    (λ a b. omega (arith, parity-zero a, parity-zero b, parity-zero (bit_xor a b)))
    (λ c ih a b. step c a b (ih (a / 2) (b / 2)))
  where
    step : (c a b : ℕ) → parity (bit_xor (a / 2) (b / 2)) (c / 2) ≡ (parity (a / 2) (c / 2) + parity (b / 2) (c / 2)) % 2
        → parity (bit_xor a b) c ≡ (parity a c + parity b c) % 2
    step c a b ih =
        let e : parity (bit_xor a b) c ≡ (min (differ (a % 2) (b % 2)) (c % 2) + parity (bit_xor (a / 2) (b / 2)) (c / 2)) % 2 =
        parity-step (bit_xor a b) c ∙ ap₂ (λ (x y : ℕ). (min x (c % 2) + parity y (c / 2)) % 2) (xor-odd a b) (xor-half a b) in
        e ∙ ap₂ (λ (x y : ℕ). (x + y) % 2) (min-differ (a % 2) (b % 2) (c % 2) (omega arith) (omega arith) (omega arith)) ih
        ∙ mod-four (min (a % 2) (c % 2)) (min (b % 2) (c % 2)) (parity (a / 2) (c / 2)) (parity (b / 2) (c / 2))
        ∙ ap₂ (λ (x y : ℕ). (x + y) % 2) (sym (parity-step a c)) (sym (parity-step b c))

pub parity-xor : (a b c : ℕ) → parity (bit_xor a b) c ≡ differ (parity a c) (parity b c)
parity-xor a b c = parity-sum c a b ∙ sym (differ-mod (parity a c) (parity b c) (omega arith) (omega arith))

-- the parity with a power of 2 is the bit there
pub parity-power : (k b : ℕ) → parity (2 ^ k) b ≡ bit b k
parity-power zero b = parity-step 1 b ∙ one-step (parity-zero-left (b / 2))
  where
    one-step : parity 0 (b / 2) ≡ 0 → (min 1 (b % 2) + parity 0 (b / 2)) % 2 ≡ b % 2
    one-step e = omega arith
parity-power (suc k) b =
    let d : 2 ^ suc k ≡ 2 ^ k * 2 = pow-suc 2 k in
    let h : 2 ^ suc k / 2 ≡ 2 ^ k = omega arith in
    let e : 2 ^ suc k % 2 ≡ 0 = omega arith in
    parity-step (2 ^ suc k) b ∙ ap₂ (λ (x y : ℕ). (min x (b % 2) + parity y (b / 2)) % 2) e h ∙ low (parity-power k (b / 2))
  where
    low : parity (2 ^ k) (b / 2) ≡ bit (b / 2) k → (min 0 (b % 2) + parity (2 ^ k) (b / 2)) % 2 ≡ bit (b / 2) k
    low q = let r : parity (2 ^ k) (b / 2) < 2 = omega arith in omega arith
