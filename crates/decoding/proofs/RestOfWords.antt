-- Rows taken off a word: what was taken off is a sum of the rows, what is left has 0 at each first one, and no one beyond.
use lib.Bits.{bit_xor, differ, xor_comm}
use lib.ListN.{drop, get_or, length}
use mathlib.Core.List.{List, [], ◌∷◌}
use mathlib.Core.Path.{ap, refl, subst, sym, ◌∙◌, ◌≡◌}
use native.Mathlib.Omega.{arith}
use Prim.Native.Nat.{◌<◌, ◌^◌, suc, suc-le-suc, zero, zero-le, ℕ}
use Rattle.decoding.specs.Cosets.{less_row, taken_off}
use Rattle.words.proofs.Sums.{in-cons, in_row, in-xor, in-zero}
use Rattle.words.proofs.Word.{below-bits, bit-lt, bit-xor, bit-zero, bits_below, xor_assoc, xor-cancel, xor_self}
use Rattle.words.specs.Ends.{first, firsts}
use Rattle.words.specs.Span.{Before, Leads}
use Rattle.words.specs.Sum.{IsSum, taken}
use Rattle.words.specs.Word.{bit}

-- two sums that have a word in common
pub xor-through : (a b c : ℕ) → bit_xor (bit_xor a b) (bit_xor b c) ≡ bit_xor a c
xor-through a b c = xor_assoc a b (bit_xor b c) ∙ ap (bit_xor a) (xor-cancel b c)

-- ---- what was taken off

taken_in : (row : ℕ) (rows : List ℕ) (d : ℕ) → IsSum (row ∷ rows) (taken d row)
taken_in row rows zero = in-zero (row ∷ rows)
taken_in row rows (suc d) = in_row (row ∷ rows) 0

pub off-sum : (rows : List ℕ) (w : ℕ) → IsSum rows (bit_xor w (taken_off rows w))
off-sum [] w = subst (IsSum []) (sym (xor_self w)) (in-zero [])
off-sum (row ∷ rows) w =
    let t : ℕ = taken (bit w (first row)) row in
    let e : bit_xor w (less_row row w) ≡ t = ap (bit_xor w) (xor_comm t w) ∙ xor-cancel w t in
    subst (IsSum (row ∷ rows)) (xor-through w (less_row row w) (taken_off rows (less_row row w)))
    (in-xor (subst (IsSum (row ∷ rows)) (sym e) (taken_in row rows (bit w (first row)))) (in-cons row (off-sum rows (less_row row w))))

-- ---- what is left

taken-bit : (d row p : ℕ) → bit row p ≡ 0 → bit (taken d row) p ≡ 0
taken-bit zero row p e = bit-zero p
taken-bit (suc d) row p e = e

-- rows with 0 at a position leave it as it is
pub off-keeps : (rows : List ℕ) (w p : ℕ) → ((j : ℕ) → j < length rows → bit (get_or rows j 0) p ≡ 0) → bit (taken_off rows w) p ≡ bit w p
off-keeps [] w p h = refl
off-keeps (row ∷ rows) w p h =
    off-keeps rows (less_row row w) p (λ j k. h (suc j) (suc-le-suc k))
    ∙ bit-xor p (taken (bit w (first row)) row) w
    ∙ ap (λ (x : ℕ). differ x (bit w p)) (taken-bit (bit w (first row)) row p (h 0 (suc-le-suc zero-le)))

-- a row clears its own first one
own-cleared : (row p d : ℕ) → bit row p ≡ 1 → d < 2 → differ (bit (taken d row) p) d ≡ 0
own-cleared row p zero e h = ap (λ (x : ℕ). differ x 0) (bit-zero p)
own-cleared row p (suc zero) e h = ap (λ (x : ℕ). differ x 1) e
own-cleared row p (suc (suc d)) e h = absurd (omega arith)

pub off-cleared : (rows : List ℕ) (w : ℕ) → Leads Before rows (firsts rows) → ((i j : ℕ) → i < j → j < length rows → firsts rows i < firsts rows j)
    → (j : ℕ) → j < length rows → bit (taken_off rows w) (firsts rows j) ≡ 0
off-cleared [] w leads rising j h = absurd (omega arith)
off-cleared (row ∷ rows) w leads rising zero h =
    off-keeps rows (less_row row w) (first row) (λ j k. (leads (suc j) (suc-le-suc k)).zeros (first row) (rising 0 (suc j) (suc-le-suc zero-le) (suc-le-suc k)))
    ∙ bit-xor (first row) (taken (bit w (first row)) row) w
    ∙ own-cleared row (first row) (bit w (first row)) (leads 0 h).one (bit-lt (first row) w)
off-cleared (row ∷ rows) w leads rising (suc j) h =
    off-cleared rows (less_row row w) (λ i k. leads (suc i) (suc-le-suc k)) (λ i k l m. rising (suc i) (suc k) (suc-le-suc l) (suc-le-suc m)) j (omega arith)

pub off-below : (n : ℕ) (rows : List ℕ) (w : ℕ) → ((j : ℕ) → j < length rows → get_or rows j 0 < 2 ^ n) → w < 2 ^ n → taken_off rows w < 2 ^ n
off-below n rows w below h =
    below-bits n (taken_off rows w) (λ i k. off-keeps rows w i (λ j l. bits_below n (get_or rows j 0) (below j l) i k) ∙ bits_below n w h i k)

-- nothing is taken off no ones
pub off_zero : (rows : List ℕ) → taken_off rows 0 ≡ 0
off_zero [] = refl
off_zero (row ∷ rows) = ap (taken_off rows) none ∙ off_zero rows
  where
    none : less_row row 0 ≡ 0
    none = ap (λ (d : ℕ). bit_xor (taken d row) 0) (bit-zero (first row))

-- ---- determined

pub rest-determined : (rows : List ℕ) (word r s : ℕ) → r ≡ taken_off rows word → s ≡ taken_off rows word → r ≡ s
rest-determined rows word r s x y = x ∙ sym y

-- ---- as the code takes rows off

-- a row that is 0 changes nothing, wherever its first one is said to be
pub less-row : (row w d : ℕ) → (0 < row → d ≡ bit w (first row)) → bit_xor (taken d row) w ≡ less_row row w
less-row zero w d e = ap (λ (x : ℕ). bit_xor x w) (none d ∙ sym (none (bit w (first 0))))
  where
    none : (d : ℕ) → taken d 0 ≡ 0
    none zero = refl
    none (suc d) = refl
less-row (suc row) w d e = ap (λ (x : ℕ). bit_xor (taken x (suc row)) w) (e (suc-le-suc zero-le))

-- from row j on
pub off_next : (rows : List ℕ) (j w : ℕ) → j < length rows → taken_off (drop j rows) w ≡ taken_off (drop (suc j) rows) (less_row (get_or rows j 0) w)
off_next [] j w h = absurd (omega arith)
off_next (row ∷ rows) zero w h = refl
off_next (row ∷ rows) (suc j) w h = off_next rows j w (omega arith)
