-- A word printed in the cover's order, position by position.
use Rattle.plates.specs.declared.Refusal.{Refusal}
use Rattle.decoding.specs.declared.Answer.{Answer}
use Rattle.std.proofs.Common.{◌≡◌, ℕ, zero, suc, ◌+◌, ◌*◌, ◌<◌, ◌≤◌, Bool, true, false, ltb, List, [], ◌∷◌, ◌++◌, reverse, length, ℤ, refl, ap, ◌∙◌, zero-add, arith, ltb-false, ltb-true, Result, Ok, Err}
use mathlib.Core.List.{reverse-append}
use Rattle.words.proofs.Word.{bit-lt}
use Rattle.words.specs.Reversed.{reversed}
use Rattle.words.specs.Word.{bit}
use Rattle.listings.specs.Lines.{positions}
use Rattle.plates.proofs.SoundIsPrepared.{sound}
use Rattle.plates.specs.declared.Plate.{Plate}
use Rattle.plates.specs.declared.Refusal.TheVariants.{NotPrepared}
use Rattle.decoding.specs.Decode.{Decodes}
use Rattle.sheets.specs.Rows.{bit_of, word_from}
use Rattle.reports.specs.Steps.{Printable}

-- ---- one position more

positions-more : (word from count : ℕ) → positions word from (suc count) ≡ positions word from count ++ (48 + bit word (from + count)) ∷ []
positions-more word from zero = let e : from + 0 ≡ from = omega arith in rw e
positions-more word from (suc count) =
    let e : suc from + count ≡ from + suc count = omega arith in
    ap (λ (xs : List ℕ). (48 + bit word from) ∷ xs) (positions-more word (suc from) count ∙ rw e)

pub positions-length : (word from count : ℕ) → length (positions word from count) ≡ count
positions-length word from zero = refl
positions-length word from (suc count) = ap suc (positions-length word (suc from) count)

-- the character of a digit is that digit
pub digit-of : (b : ℕ) → b < 2 → bit_of (48 + b) ≡ b
digit-of zero h = refl
digit-of (suc zero) h = refl
digit-of (suc (suc b)) h = absurd (omega arith)

-- ---- all positions

-- the word from the far end has the positions in the other order
pub printed-last : (n word : ℕ) → reversed n word ≡ word_from (reverse (positions word 0 n))
printed-last zero word = refl
printed-last (suc n) word =
    rw (positions-more word 0 n, reverse-append, zero-add n, digit-of (bit word n) (bit-lt n word))
    (ap (λ (w : ℕ). w * 2 + bit word n) (printed-last n word))

-- ---- the plate of an answer

-- decoding answers only on a prepared plate
pub printable : (plate : Plate) (samples metrics : List ℤ) (decisions : List ℕ) (metrics' : List ℤ) (decisions' : List ℕ) (d : Result Answer Refusal)
    → Decodes plate samples metrics decisions metrics' decisions' d → Printable d plate
printable plate samples metrics decisions metrics' decisions' (Ok a) x =
    by (ltb 64 plate.n) refl
  where
    by : (t : Bool) → ltb 64 plate.n ≡ t → plate.n ≤ 64
    by true e = let h = ltb-true 64 plate.n e in absurd (x.0.0 NotPrepared ((λ p. omega (arith, (sound p).short, h)), refl))
    by false e = ltb-false 64 plate.n e
printable plate samples metrics decisions metrics' decisions' (Err q) x = tt
