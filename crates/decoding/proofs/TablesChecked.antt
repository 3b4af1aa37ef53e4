-- The constant tables, tested at each of their entries.
use lib.Count.{ones}
use lib.Dec.{T, eqb, eqb→eq}
use lib.ListN.{get_or}
use mathlib.Core.Bool.{Bool, false, true}
use mathlib.Core.List.{List, [], ◌∷◌}
use mathlib.Core.Logic.{⊎_elim}
use mathlib.Core.Path.{refl, subst, sym, ◌≡◌}
use native.Mathlib.Nat.{eq-or-lt_of_le, le_of_suc-le-suc}
use native.Mathlib.Omega.{arith}
use Prim.Native.Nat.{◌%◌, ◌/◌, ◌<◌, ◌^◌, suc, zero, ℕ}
use Rattle.decoding.specs.Patterns.{HighPattern, LowPattern}
use Rattle.decoding.specs.Tables.{Weights}
use Rattle.words.specs.Parity.{parity}
use Rattle.words.specs.Word.{bit}

abbrev both : Bool → Bool → Bool
both true b = b
both false b = false

left : (a b : Bool) → T (both a b) → T a
left true b t = tt
left false b t = t

right : (a b : Bool) → T (both a b) → T b
right true b t = t
right false b t = absurd t

-- f passes at every number below n
abbrev below : ℕ → (ℕ → Bool) → Bool
below zero f = true
below (suc n) f = both (f n) (below n f)

at : (n : ℕ) (f : ℕ → Bool) → T (below n f) → (i : ℕ) → i < n → T (f i)
at zero f t i h = absurd (omega arith)
at (suc n) f t i h =
    ⊎_elim (λ e. subst (λ (k : ℕ). T (f k)) (sym e) (left (f n) (below n f) t))
    (λ l. at n f (right (f n) (below n f) t) i l) (eq-or-lt_of_le (le_of_suc-le-suc h))

-- two numbers that antt finds equal at each place below n
same-below : (n : ℕ) (f g : ℕ → ℕ) → T (below n (λ i. eqb (f i) (g i))) → (i : ℕ) → i < n → f i ≡ g i
same-below n f g t i h = eqb→eq (f i) (g i) (at n (λ i. eqb (f i) (g i)) t i h)

-- the parities of three digits of the numbers 0 to 63 with each column of three digits
abbrev pub low : List ℕ
low = 0 ∷ 0xAAAAAAAAAAAAAAAA ∷ 0xCCCCCCCCCCCCCCCC ∷ 0x6666666666666666 ∷ 0xF0F0F0F0F0F0F0F0 ∷ 0x5A5A5A5A5A5A5A5A ∷ 0x3C3C3C3C3C3C3C3C ∷ 0x9696969696969696 ∷ []

abbrev pub high : List ℕ
high = 0 ∷ 0xFF00FF00FF00FF00 ∷ 0xFFFF0000FFFF0000 ∷ 0x00FFFF0000FFFF00 ∷ 0xFFFFFFFF00000000 ∷ 0x00FF00FFFF00FF00 ∷ 0x0000FFFFFFFF0000 ∷ 0xFF0000FF00FFFF00 ∷ []

pub low-is : (column : ℕ) → column < 8 → LowPattern column (get_or low column 0)
unfolding ones
low-is column h = record {
  bits = λ i l. eqb→eq (bit (get_or low column 0) i) (parity (i % 8) column) (at 64 (λ i. eqb (bit (get_or low column 0) i) (parity (i % 8) column)) (at 8 (λ c. below 64 (λ i. eqb (bit (get_or low c 0) i) (parity (i % 8) c))) tt column h) i l);
}

pub high_is : (column : ℕ) → column < 8 → HighPattern column (get_or high column 0)
unfolding ones
high_is column h = record {
  bits = λ i l. eqb→eq (bit (get_or high column 0) i) (parity (i / 8) column) (at 64 (λ i. eqb (bit (get_or high column 0) i) (parity (i / 8) column)) (at 8 (λ c. below 64 (λ i. eqb (bit (get_or high c 0) i) (parity (i / 8) c))) tt column h) i l);
}

-- every bit of the largest word
pub full : (i : ℕ) → i < 64 → bit 0xFFFFFFFFFFFFFFFF i ≡ 1
full = same-below 64 (bit 0xFFFFFFFFFFFFFFFF) (λ i. 1) tt

-- the weights of 32 positions
abbrev pub weights : List ℕ
weights = 1 ∷ 2 ∷ 4 ∷ 8 ∷ 16 ∷ 32 ∷ 64 ∷ 128 ∷ 256 ∷ 512 ∷ 1024 ∷ 2048 ∷ 4096 ∷ 8192 ∷ 16384 ∷ 32768 ∷ 65536 ∷ 131072 ∷ 262144 ∷ 524288 ∷ 1048576 ∷ 2097152 ∷ 4194304 ∷ 8388608 ∷ 16777216 ∷ 33554432 ∷ 67108864 ∷ 134217728 ∷ 268435456 ∷ 536870912 ∷ 1073741824 ∷ 2147483648 ∷ []

pub weights-are : Weights weights
weights-are = record { size = refl; weight = same-below 32 (λ i. get_or weights i 0) (λ i. 2 ^ i) tt }
