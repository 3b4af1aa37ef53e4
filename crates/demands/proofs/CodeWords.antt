-- Tests of the words of a code and of a plate, one after the other.
use borrow.Author.Tests.{eq-eqb}
use lib.Bits.{bit_xor}
use lib.Dec.{T, eqb, eqb→eq}
use lib.ListN.{get_or, length}
use mathlib.Core.Bool.{◌&&◌, Bool, not, true}
use mathlib.Core.List.{List, [], ◌∷◌}
use mathlib.Core.Logic.{inl, inr, ◌↔◌}
use mathlib.Core.Path.{ap₂, refl, subst, ◌∙◌, ◌≡◌}
use native.Mathlib.Omega.{arith}
use Prim.Native.Nat.{◌<◌, ◌^◌, suc, suc-le-suc, zero, zero-le, ℕ}
use Rattle.coding.proofs.PlateWords.{made-is-word, mask-twice}
use Rattle.coding.specs.Coding.{word_of}
use Rattle.demands.proofs.Checking.{Check, both, by, each, either, equal, left, less, right, some}
use Rattle.plates.proofs.OneDimension.{sum-trim, trim, trim-lt}
use Rattle.plates.specs.Code.{Checked, InCode}
use Rattle.plates.specs.declared.Kind.{Kind}
use Rattle.plates.specs.declared.Kind.TheVariants.{G, H}
use Rattle.plates.specs.declared.Plate.{Plate}
use Rattle.plates.specs.Prepare.{IsWord, rows_of}
use Rattle.words.specs.Parity.{parity}
use Rattle.words.specs.Sum.{IsSum, sum_of}

-- ---- sums of rows

-- some sum of the rows is w
abbrev pub sum : (rows : List ℕ) (w : ℕ) → Check (IsSum rows w)
sum rows w = by (λ s. record { by = s.0; sum = s.2 }) (some (2 ^ length rows) (λ u. equal (sum_of rows u) w))

-- what holds of the sums by the numbers below 2 ^ k, for k rows, holds of all
pub of-sums : (rows : List ℕ) (P : ℕ → Type 0) → ((u : ℕ) → u < 2 ^ length rows → P (sum_of rows u)) → (w : ℕ) → IsSum rows w → P w
of-sums rows P h w g = subst P (sum-trim rows g.by ∙ g.sum) (h (trim (length rows) g.by) (trim-lt (length rows) g.by))

-- each sum of the rows
abbrev pub sums : (rows : List ℕ) {P : ℕ → Type 0} → ((w : ℕ) → Check (P w)) → Check ((w : ℕ) → IsSum rows w → P w)
sums rows {P} c = by (of-sums rows P) (each (2 ^ length rows) (λ u. c (sum_of rows u)))

-- ---- words that rows check

-- w has an even number of ones in common with each row
abbrev pub even_with : List ℕ → ℕ → Bool
even_with [] w = true
even_with (r ∷ rs) w = eqb (parity r w) 0 && even_with rs w

-- its law
pub even-with : (rows : List ℕ) (w : ℕ) → T (even_with rows w) → (j : ℕ) → j < length rows → parity (get_or rows j 0) w ≡ 0
even-with [] w t j h = absurd (omega arith)
even-with (r ∷ rs) w t zero h = eqb→eq (parity r w) 0 (left (eqb (parity r w) 0) (even_with rs w) t)
even-with (r ∷ rs) w t (suc j) h = even-with rs w (right (eqb (parity r w) 0) (even_with rs w) t) j (omega arith)

-- and the other way
with-even : (rows : List ℕ) (w : ℕ) → ((j : ℕ) → j < length rows → parity (get_or rows j 0) w ≡ 0) → even_with rows w ≡ true
with-even [] w h = refl
with-even (r ∷ rs) w h = ap₂ ◌&&◌ (eq-eqb (parity r w) 0 (h 0 (suc-le-suc zero-le))) (with-even rs w (λ j k. h (suc j) (suc-le-suc k)))

-- the rows check w
abbrev pub checked : (n : ℕ) (rows : List ℕ) (w : ℕ) → Check (Checked n rows w)
checked n rows w =
    by (λ p. record { below = p.0; even = p.1 }) (both (less w (2 ^ n)) (record { test = even_with rows w; law = even-with rows w }))

-- where a word is not even with the rows, nothing is asked of it
pub odd-with : (n : ℕ) (rows : List ℕ) (w : ℕ) → T (not (even_with rows w)) → Checked n rows w → ⊥
odd-with n rows w t c = subst (λ (x : Bool). T (not x)) (with-even rows w c.even) t

-- P holds of each word that the rows check
abbrev pub checked_words : (n : ℕ) (rows : List ℕ) {P : ℕ → Type 0} → ((w : ℕ) → Check (P w)) → Check ((w : ℕ) → Checked n rows w → P w)
checked_words n rows {P} c =
    by (λ h w x. elim (h w x.below) [ inl o ↦ absurd (o x) | inr y ↦ y ])
    (each (2 ^ n) (λ w. either (record { test = not (even_with rows w); law = odd-with n rows w }) (c w)))

-- ---- the code of a matrix

-- w is in the code
abbrev pub word : (kind : Kind) (n : ℕ) (rows : List ℕ) (w : ℕ) → Check (InCode kind n rows w)
word G n rows w = sum rows w
word H n rows w = checked n rows w

-- P holds of each word of the code
abbrev pub words : (kind : Kind) (n : ℕ) (rows : List ℕ) {P : ℕ → Type 0} → ((w : ℕ) → Check (P w)) → Check ((w : ℕ) → InCode kind n rows w → P w)
words G n rows c = sums rows c
words H n rows c = checked_words n rows c

-- the matrix's code is the sums of other rows
abbrev pub same_code : (kind : Kind) (n : ℕ) (rows plate : List ℕ) → Check ((w : ℕ) → InCode kind n rows w ↔ IsSum plate w)
same_code kind n rows plate =
    by (λ p w. (p.0 w, p.1 w)) (both (words kind n rows (λ w. sum plate w)) (sums plate (λ w. word kind n rows w)))

-- ---- the words of a plate

-- w is a word of the plate
abbrev pub plate_word : (plate : Plate) (w : ℕ) → Check (IsWord plate w)
plate_word plate w = sum (rows_of plate) (bit_xor w plate.mask)

-- some word of the plate
abbrev pub some_plate_word : (plate : Plate) {P : ℕ → Type 0} → ((w : ℕ) → Check (P w)) → Check ((w : ℕ) × IsWord plate w × P w)
some_plate_word plate c = by (λ s. (word_of plate s.0, made-is-word plate s.0, s.2)) (some (2 ^ length (rows_of plate)) (λ u. c (word_of plate u)))

-- P holds of each word of the plate
abbrev pub plate_words : (plate : Plate) {P : ℕ → Type 0} → ((w : ℕ) → Check (P w)) → Check ((w : ℕ) → IsWord plate w → P w)
plate_words plate {P} c =
    by (λ h w g. subst P (mask-twice w plate.mask) (h (bit_xor w plate.mask) g)) (sums (rows_of plate) (λ v. c (bit_xor v plate.mask)))
