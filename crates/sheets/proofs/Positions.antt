-- With first the leftmost character of a row is position 0, with last the rightmost.
use Prim.Native.Nat.{ℕ, zero, suc, ◌+◌, ◌*◌, ◌/◌, ◌%◌, ◌<◌}
use lib.ListN.{length, get_or, length-reverse}
use mathlib.Core.List.{List, [], ◌∷◌, reverse}
use mathlib.Core.Path.{◌≡◌, ◌∙◌, ap}
use native.Mathlib.Omega.{arith}
use Rattle.words.specs.Word.{bit}
use Rattle.sheets.specs.Rows.{bit_of, word_from}
use Rattle.sheets.specs.Turning.{in_order}
use Rattle.sheets.specs.declared.Order.TheVariants.{First, Last}
use Rattle.sheets.proofs.Characters.{bit_small}
use Rattle.sheets.proofs.Turns.{far-end}

half : (w b : ℕ) → b < 2 → (w * 2 + b) / 2 ≡ w
half w b h = omega arith

odd : (w b : ℕ) → b < 2 → (w * 2 + b) % 2 ≡ b
odd w b h = omega arith

-- position i is character i from the left
pub position_first : (f : List ℕ) (i : ℕ) → i < length f → bit (word_from (in_order First f)) i ≡ bit_of (get_or f i 0)
position_first [] i h = absurd (omega arith)
position_first (x ∷ xs) zero h = odd (word_from xs) (bit_of x) (bit_small x)
position_first (x ∷ xs) (suc i) h = ap (λ (w : ℕ). bit w i) (half (word_from xs) (bit_of x) (bit_small x)) ∙ position_first xs i (omega arith)

-- position i is character i from the right
pub position-last : (f : List ℕ) (i j : ℕ) → i + j + 1 ≡ length f → bit (word_from (in_order Last f)) i ≡ bit_of (get_or f j 0)
position-last f i j h = position_first (reverse f) i (rw length-reverse (omega arith)) ∙ ap bit_of (far-end f i j 0 h)
