-- What is printed of a word: its positions in the cover's order, so that with last position n-1 stands at the left.
use Rattle.std.proofs.Common.{◌≡◌, ℕ, zero, suc, ◌+◌, ◌*◌, ◌/◌, ◌%◌, ◌<◌, Bool, true, false, cond, ◌&&◌, eqb, List, [], ◌∷◌, reverse, length, sym, refl, ap, ◌∙◌, ap₂, arith, eqb-true}
use borrow.Author.Tests.{eqb-false}
use lib.ListN.{length-reverse}
use Rattle.words.proofs.Word.{bit-lt}
use Rattle.words.specs.Word.{bit}
use Rattle.listings.specs.Lines.{positions}
use Rattle.sheets.proofs.Characters.{bit_small}
use Rattle.sheets.proofs.Digits.{between}
use Rattle.sheets.proofs.TurnedLists.{bits-turned}
use Rattle.sheets.specs.Rows.{bit_of, bits_only, is_bit, word_from}
use Rattle.sheets.specs.Turning.{in_order}
use Rattle.sheets.specs.declared.Order.{Order}
use Rattle.sheets.specs.declared.Order.TheVariants.{First, Last}
use Rattle.reports.specs.Printed.{printed_as}
use Rattle.reports.proofs.PrintedWords.{positions-length}

-- ---- characters of a word

half : (w b : ℕ) → b < 2 → (w * 2 + b) / 2 ≡ w
half w b h = omega arith

odd : (w b : ℕ) → b < 2 → (w * 2 + b) % 2 ≡ b
odd w b h = omega arith

positions-half : (w from count : ℕ) → positions w (suc from) count ≡ positions (w / 2) from count
positions-half w from zero = refl
positions-half w from (suc count) = ap (λ (xs : List ℕ). (48 + bit (w / 2) from) ∷ xs) (positions-half w (suc from) count)

bit-case : (x : ℕ) (t : Bool) → eqb x 49 ≡ t → is_bit x ≡ true → 48 + cond t 1 0 ≡ x
bit-case x true e h = sym (eqb-true x 49 e)
bit-case x false e h = let r = between 48 49 x h in omega (arith, r.0, r.1, eqb-false x 49 e)

left : (a b : Bool) → (a && b) ≡ true → (a ≡ true) × (b ≡ true)
left true b e = (refl, e)
left false b e = (e, cc)

-- the positions of the word of some characters are those characters
pub characters-of : (f : List ℕ) → bits_only f ≡ true → positions (word_from f) 0 (length f) ≡ f
characters-of [] h = refl
characters-of (x ∷ xs) h =
    let b = bit_small x in
    let p = left (is_bit x) (bits_only xs) h in
    ap₂ (λ (c : ℕ) (cs : List ℕ). c ∷ cs) (ap (λ (d : ℕ). 48 + d) (odd (word_from xs) (bit_of x) b) ∙ bit-case x (eqb x 49) refl p.0)
    (positions-half (word_from xs * 2 + bit_of x) 0 (length xs) ∙ ap (λ (w : ℕ). positions w 0 (length xs)) (half (word_from xs) (bit_of x) b) ∙ characters-of xs p.1)

digit-is : (b : ℕ) → b < 2 → is_bit (48 + b) ≡ true
digit-is zero h = refl
digit-is (suc zero) h = refl
digit-is (suc (suc b)) h = absurd (omega arith)

positions-bits : (word from count : ℕ) → bits_only (positions word from count) ≡ true
positions-bits word from zero = refl
positions-bits word from (suc count) = rw (digit-is (bit word from) (bit-lt from word)) (positions-bits word (suc from) count)

-- ---- the printed word

pub printed-in-order : (order : Order) (n word : ℕ) → positions (printed_as order n word) 0 n ≡ in_order order (positions word 0 n)
printed-in-order First n word = refl
printed-in-order Last n word =
    let f = positions word 0 n in
    let l : length (reverse f) ≡ n = length-reverse f ∙ positions-length word 0 n in
    ap (positions (word_from (reverse f)) 0) (sym l) ∙ characters-of (reverse f) (bits-turned f ∙ positions-bits word 0 n)
