-- A word from the far end: its positions, that twice is the word again, and that sums go along.
use lib.Bits.{bit_xor, differ}
use mathlib.Core.Path.{◌≡◌, ap, refl, sym, ◌∙◌}
use native.Mathlib.Omega.{arith}
use Prim.Native.Nat.{◌*◌, ◌+◌, ◌-◌, ◌<◌, ◌^◌, suc, zero, ℕ}
use Rattle.outlines.proofs.RestTells.{xor_below}
use Rattle.words.specs.Reversed.{reversed}
use Rattle.outlines.specs.Searching.{read_from}
use Rattle.sheets.specs.declared.Order.{Order}
use Rattle.sheets.specs.declared.Order.TheVariants.{First, Last}
use Rattle.words.proofs.Reversing.{reversed-below}
use Rattle.words.proofs.Word.{below-ext, bit-lt, bit-xor, half}
use Rattle.words.specs.Word.{bit}

odd : (x d : ℕ) → d < 2 → bit (x * 2 + d) 0 ≡ d
odd x d h = omega arith

-- position i of one is position n - 1 - i of the other
pub reversed-position : (n w i j : ℕ) → i + j + 1 ≡ n → bit (reversed n w) i ≡ bit w j
reversed-position zero w i j e = absurd (omega (arith, e))
reversed-position (suc n) w zero j e =
    let f : n ≡ j = omega (arith, e) in
    odd (reversed n w) (bit w n) (bit-lt n w) ∙ ap (bit w) f
reversed-position (suc n) w (suc i) j e =
    ap (λ (x : ℕ). bit x i) (half (reversed n w) (bit w n) (bit-lt n w)) ∙ reversed-position n w i j (omega (arith, e))

pub reversed-twice : (n w : ℕ) → w < 2 ^ n → reversed n (reversed n w) ≡ w
reversed-twice n w h =
    below-ext n (reversed n (reversed n w)) w (reversed-below n (reversed n w)) h
    (λ i l. (let e : i + (n - 1 - i) + 1 ≡ n = omega (arith, l) in
    reversed-position n (reversed n w) i (n - 1 - i) e ∙ reversed-position n w (n - 1 - i) i (omega (arith, l))))

reversed-xor : (n a b : ℕ) → reversed n (bit_xor a b) ≡ bit_xor (reversed n a) (reversed n b)
reversed-xor n a b =
    below-ext n (reversed n (bit_xor a b)) (bit_xor (reversed n a) (reversed n b)) (reversed-below n (bit_xor a b))
    (xor_below n (reversed n a) (reversed n b) (reversed-below n a) (reversed-below n b)) (λ i l. side i (n - 1 - i) (omega (arith, l)))
  where
    side : (i j : ℕ) → i + j + 1 ≡ n → bit (reversed n (bit_xor a b)) i ≡ bit (bit_xor (reversed n a) (reversed n b)) i
    side i j e =
        reversed-position n (bit_xor a b) i j e ∙ bit-xor j a b
        ∙ sym (bit-xor i (reversed n a) (reversed n b) ∙ ap (λ (x : ℕ). differ x (bit (reversed n b) i)) (reversed-position n a i j e)
        ∙ ap (differ (bit a j)) (reversed-position n b i j e))

pub read-xor : (order : Order) (n a b : ℕ) → read_from order n (bit_xor a b) ≡ bit_xor (read_from order n a) (read_from order n b)
read-xor First n a b = refl
read-xor Last n a b = reversed-xor n a b

pub read_below : (order : Order) (n w : ℕ) → w < 2 ^ n → read_from order n w < 2 ^ n
read_below First n w h = h
read_below Last n w h = reversed-below n w
