-- Words as numbers: their bits, equality of words by their bits, and the sum modulo 2 of two words.
use lib.Arith.{bin_ind, digits_div, digits_mod, lt-one}
use lib.Bits.{bit_xor, differ, xor_comm, xor_step, xor_zero_r}
use lib.Pow.{shr-shr}
use mathlib.Core.Logic.{inl, inr, ◌⊎◌}
use mathlib.Core.Path.{ap, refl, sym, ◌∙◌, ◌≡◌}
use native.Mathlib.Nat.{add_comm, pow-suc}
use native.Mathlib.Numerals.{add-one}
use native.Mathlib.Omega.{arith}
use Prim.Native.Nat.{◌%◌, ◌*◌, ◌+◌, ◌/◌, ◌<◌, ◌^◌, suc, suc-le-suc, zero, zero-le, ℕ, ◌≤◌}
use Rattle.words.specs.Word.{bit}

pub bit-lt : (i w : ℕ) → bit w i < 2
bit-lt zero w = omega arith
bit-lt (suc i) w = bit-lt i (w / 2)

pub bit-div : (i w : ℕ) → bit w i ≡ w / 2 ^ i % 2
bit-div zero w = omega arith
bit-div (suc i) w =
    bit-div i (w / 2) ∙ ap (λ (x : ℕ). x % 2) (shr-shr w 1 i ∙ ap (λ (x : ℕ). w / 2 ^ x) (add_comm 1 i ∙ add-one i))

pub bit-zero : (i : ℕ) → bit 0 i ≡ 0
bit-zero zero = refl
bit-zero (suc i) = bit-zero i

-- a digit is 0 or 1
pub digit : (d : ℕ) → d < 2 → (d ≡ 0) ⊎ (d ≡ 1)
digit zero h = inl refl
digit (suc zero) h = inr refl
digit (suc (suc d)) h = absurd (omega arith)

pub bit-cases : (w i : ℕ) → (bit w i ≡ 0) ⊎ (bit w i ≡ 1)
bit-cases w i = digit (bit w i) (bit-lt i w)

differ-lt : (x y : ℕ) → x < 2 → y < 2 → differ x y < 2
differ-lt zero y hx hy = hy
differ-lt (suc zero) zero hx hy = hx
differ-lt (suc (suc x)) zero hx hy = hx
differ-lt (suc x) (suc y) hx hy = differ-lt x y (omega arith) (omega arith)

pub xor-odd : (a b : ℕ) → bit_xor a b % 2 ≡ differ (a % 2) (b % 2)
xor-odd a b = rw (xor_step a b) (digits_mod (bit_xor (a / 2) (b / 2)) (differ-lt (a % 2) (b % 2) (omega arith) (omega arith)))

pub xor-half : (a b : ℕ) → bit_xor a b / 2 ≡ bit_xor (a / 2) (b / 2)
xor-half a b = rw (xor_step a b) (digits_div (bit_xor (a / 2) (b / 2)) (differ-lt (a % 2) (b % 2) (omega arith) (omega arith)))

pub bit-xor : (i a b : ℕ) → bit (bit_xor a b) i ≡ differ (bit a i) (bit b i)
bit-xor zero a b = xor-odd a b
bit-xor (suc i) a b = ap (λ (x : ℕ). bit x i) (xor-half a b) ∙ bit-xor i (a / 2) (b / 2)

-- two numbers with the same bits are equal
pub bits-zero : (a : ℕ) → ((i : ℕ) → bit a i ≡ 0) → a ≡ 0
bits-zero =
    bin_ind (λ (a : ℕ). ((i : ℕ) → bit a i ≡ 0) → a ≡ 0) (λ h. refl)
    (λ n ih h. let e : n / 2 ≡ 0 = ih (λ i. h (suc i)) in omega (arith, h 0))

pub bit-ext : (a b : ℕ) → ((i : ℕ) → bit a i ≡ bit b i) → a ≡ b
bit-ext =
    bin_ind (λ (a : ℕ). (b : ℕ) → ((i : ℕ) → bit a i ≡ bit b i) → a ≡ b) (λ b h. sym (bits-zero b (λ i. sym (h i) ∙ bit-zero i)))
    (λ n ih b h. let e : n / 2 ≡ b / 2 = ih (b / 2) (λ i. h (suc i)) in omega (arith, h 0))

-- a word is below 2 ^ n where all its bits at n and beyond are 0, and only there
pub bits_below : (n w : ℕ) → w < 2 ^ n → (i : ℕ) → n ≤ i → bit w i ≡ 0
bits_below zero w h i g = ap (λ (x : ℕ). bit x i) (lt-one h) ∙ bit-zero i
bits_below (suc n) w h zero g = absurd (omega arith)
bits_below (suc n) w h (suc i) g = bits_below n (w / 2) (omega (arith, pow-suc 2 n)) i (omega arith)

pub below-bits : (n w : ℕ) → ((i : ℕ) → n ≤ i → bit w i ≡ 0) → w < 2 ^ n
below-bits zero w h = let e : w ≡ 0 = bits-zero w (λ i. h i zero-le) in omega arith
below-bits (suc n) w h =
    let l : w / 2 < 2 ^ n = below-bits n (w / 2) (λ i g. h (suc i) (suc-le-suc g)) in omega (arith, pow-suc 2 n)

-- ---- the laws of the sum modulo 2, by its bits

pub differ_self : (x : ℕ) → differ x x ≡ 0
differ_self zero = refl
differ_self (suc x) = differ_self x

pub differ-zero : (x : ℕ) → differ x 0 ≡ x
differ-zero zero = refl
differ-zero (suc x) = refl

differ-assoc : (x y z : ℕ) → x < 2 → y < 2 → z < 2 → differ (differ x y) z ≡ differ x (differ y z)
differ-assoc zero y z hx hy hz = refl
differ-assoc (suc zero) zero z hx hy hz = refl
differ-assoc (suc zero) (suc zero) zero hx hy hz = refl
differ-assoc (suc zero) (suc zero) (suc zero) hx hy hz = refl
differ-assoc (suc zero) (suc zero) (suc (suc z)) hx hy hz = absurd (omega arith)
differ-assoc (suc zero) (suc (suc y)) z hx hy hz = absurd (omega arith)
differ-assoc (suc (suc x)) y z hx hy hz = absurd (omega arith)

pub xor_self : (a : ℕ) → bit_xor a a ≡ 0
xor_self a = bits-zero (bit_xor a a) (λ i. bit-xor i a a ∙ differ_self (bit a i))

pub xor_assoc : (a b c : ℕ) → bit_xor (bit_xor a b) c ≡ bit_xor a (bit_xor b c)
xor_assoc a b c =
    bit-ext _ _ (λ i. bit-xor i (bit_xor a b) c ∙ ap (λ (x : ℕ). differ x (bit c i)) (bit-xor i a b)
    ∙ differ-assoc (bit a i) (bit b i) (bit c i) (bit-lt i a) (bit-lt i b) (bit-lt i c)
    ∙ sym (bit-xor i a (bit_xor b c) ∙ ap (differ (bit a i)) (bit-xor i b c)))

-- what is added twice is gone
pub xor-cancel : (a b : ℕ) → bit_xor a (bit_xor a b) ≡ b
xor-cancel a b = sym (xor_assoc a a b) ∙ ap (λ (x : ℕ). bit_xor x b) (xor_self a)

pub xor-swap : (a b c : ℕ) → bit_xor a (bit_xor b c) ≡ bit_xor b (bit_xor a c)
xor-swap a b c = sym (xor_assoc a b c) ∙ ap (λ (x : ℕ). bit_xor x c) (xor_comm a b) ∙ xor_assoc b a c

pub xor-four : (a b c d : ℕ) → bit_xor (bit_xor a b) (bit_xor c d) ≡ bit_xor (bit_xor a c) (bit_xor b d)
xor-four a b c d = xor_assoc a b (bit_xor c d) ∙ ap (bit_xor a) (xor-swap b c d) ∙ sym (xor_assoc a c (bit_xor b d))

pub xor-zero-eq : (a b : ℕ) → bit_xor a b ≡ 0 → a ≡ b
xor-zero-eq a b e = sym (xor_zero_r a) ∙ ap (bit_xor a) (sym e) ∙ xor-cancel a b

pub differ-eq : (x y : ℕ) → differ x y ≡ 0 → x ≡ y
differ-eq zero y e = sym e
differ-eq (suc x) zero e = e
differ-eq (suc x) (suc y) e = ap suc (differ-eq x y e)

pub bit-same : (a b i : ℕ) → bit (bit_xor a b) i ≡ 0 → bit a i ≡ bit b i
bit-same a b i e = differ-eq (bit a i) (bit b i) (sym (bit-xor i a b) ∙ e)

-- two words below 2 ^ n with the same bits below n are equal
pub below-ext : (n a b : ℕ) → a < 2 ^ n → b < 2 ^ n → ((i : ℕ) → i < n → bit a i ≡ bit b i) → a ≡ b
below-ext zero a b ha hb h = omega arith
below-ext (suc n) a b ha hb h =
    let e : a / 2 ≡ b / 2 = below-ext n (a / 2) (b / 2) (omega (arith, pow-suc 2 n)) (omega (arith, pow-suc 2 n)) (λ i l. h (suc i) (suc-le-suc l)) in
    omega (arith, h 0 (suc-le-suc zero-le))

-- a digit appended and taken off
pub half : (x d : ℕ) → d < 2 → (x * 2 + d) / 2 ≡ x
half x d h = omega arith
