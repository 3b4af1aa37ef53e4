-- A number above another: its bits are those of both.
use lib.Arith.{digits_lt}
use lib.Bits.{block_half, block_odd}
use lib.Pow.{pow-add, shr-shr}
use mathlib.Core.Path.{ap, ap₂, sym, ◌∙◌, ◌≡◌}
use native.Mathlib.Nat.{add_comm, pow-suc}
use native.Mathlib.Omega.{arith}
use Prim.Native.Nat.{◌%◌, ◌*◌, ◌+◌, ◌/◌, ◌<◌, ◌^◌, suc, zero, ℕ}
use Rattle.words.proofs.Word.{bit-div}
use Rattle.words.specs.Word.{bit}

-- a word's low n bits and those above them
pub bit-low : (n a b i : ℕ) → i < n → bit (a * 2 ^ n + b) i ≡ bit b i
bit-low zero a b i l = absurd (omega arith)
bit-low (suc n) a b zero l = block_odd a n b
bit-low (suc n) a b (suc i) l = ap (λ (x : ℕ). bit x i) (block_half a n b) ∙ bit-low n a (b / 2) i (omega arith)

pub bit_high : (n a b i : ℕ) → b < 2 ^ n → bit (a * 2 ^ n + b) (n + i) ≡ bit a i
bit_high zero a b i l = let e : a * 2 ^ 0 + b ≡ a = omega arith in let f : 0 + i ≡ i = omega arith in ap₂ bit e f
bit_high (suc n) a b i l =
    let f : suc n + i ≡ suc (n + i) = omega arith in
    ap (bit (a * 2 ^ suc n + b)) f ∙ ap (λ (x : ℕ). bit x (n + i)) (block_half a n b) ∙ bit_high n a (b / 2) i (omega (arith, pow-suc 2 n))

pub cat-lt : (n m a b : ℕ) → a < 2 ^ m → b < 2 ^ n → a * 2 ^ n + b < 2 ^ (n + m)
cat-lt n m a b ha hb = rw (add_comm n m, pow-add 2 m n) (digits_lt ha hb)

-- a word shifted down
pub bit-shift : (w m i : ℕ) → bit (w / 2 ^ m) i ≡ bit w (m + i)
bit-shift w m i = bit-div i (w / 2 ^ m) ∙ ap (λ (x : ℕ). x % 2) (shr-shr w m i) ∙ sym (bit-div (m + i) w)
