-- The lines after the cover: the refusal of a bad one is their first fault, whether the first of them is a mask or not.
use Rattle.plates.specs.declared.Refusal.{Refusal}
use Rattle.std.proofs.Common.{Option, Some, None, Result, Ok, Err}
use Prim.Native.Nat.{ℕ, zero, suc, ◌+◌}
use lib.ListN.{length, drop}
use mathlib.Core.List.{List, [], ◌∷◌}
use mathlib.Core.Path.{◌≡◌, refl, sym, ◌∙◌, ap}
use native.Mathlib.Omega.{arith}
use Rattle.plates.specs.Refusals.{field, number}
use Rattle.sheets.specs.declared.line.Fault.{Fault}
use Rattle.sheets.specs.Text.{fields}
use Rattle.sheets.specs.Blocks.{blocks_of, heard_front}
use Rattle.sheets.specs.Lines.{rows_of}
use Rattle.sheets.specs.Masks.{mask_in, masks_in, mask_of}
use Rattle.sheets.specs.Sheet.{contents_with, contents_of, body_bad, bad_by, line_bad}
use Rattle.sheets.specs.Faults.{Part, on_mask, on_rows, in_turn, after, first_word, Wrong, out_of_turn, miscounted, malformed, WrongAt}
use Rattle.sheets.specs.declared.word.Word.{Word}
use Rattle.sheets.specs.declared.word.Word.TheVariants as W
use Rattle.sheets.specs.declared.cover.Cover.{Cover}
use Rattle.sheets.proofs.CoverFaults.{MaskJudged, mask-judged}
use Rattle.sheets.proofs.FirstFaults.{LinesJudged, first-here, on, rows-judged}
use Rattle.sheets.proofs.Turns.{by-position-length}

-- ---- no mask: right after the cover the same is wrong as among the rows

-- another word than mask is in its turn there where it is in its turn among the rows
other-turn : (word : Word) → (word ≡ W.Mask → ⊥) → in_turn on_mask word ≡ in_turn on_rows word
other-turn W.Cover h = refl
other-turn W.Mask h = absurd (h refl)
other-turn W.Row h = refl
other-turn W.Block h = refl
other-turn W.Heard h = refl
other-turn W.End h = refl
other-turn W.Other h = refl

-- the first line, where there is one, is of another word
abbrev NoMaskFirst : List (List ℕ) → Type 0
NoMaskFirst [] = Unit {0}
NoMaskFirst (l ∷ []) = Unit {0}
NoMaskFirst (l ∷ m ∷ ms) = first_word (fields l) ≡ W.Mask → ⊥

module _ (n : ℕ) where
  -- what is wrong with a line goes by its part only as far as its word is in its turn
  turn-alike : {p q : Part} {fs : List (List ℕ)} {m b : ℕ} → in_turn p (first_word fs) ≡ in_turn q (first_word fs) → Wrong n p fs m b → Wrong n q fs m b
  turn-alike e (out_of_turn h i j) = out_of_turn (sym e ∙ h) i j
  turn-alike e (miscounted h i j) = miscounted h i j
  turn-alike e (malformed x y h i) = malformed x y h i

  to-rows : (ls : List (List ℕ)) → NoMaskFirst ls → (k m b : ℕ) → WrongAt n on_mask ls k m b → WrongAt n on_rows ls k m b
  to-rows ls h zero m b w = w
  to-rows [] h (suc zero) m b w = w
  to-rows (l ∷ []) h (suc zero) m b w = w
  to-rows (l ∷ k ∷ ls) h (suc zero) m b w = turn-alike (other-turn (first_word (fields l)) h) w
  to-rows [] h (suc (suc k)) m b w = w
  to-rows (l ∷ ls) h (suc (suc k)) m b w = w

  from-rows : (ls : List (List ℕ)) → NoMaskFirst ls → (k m b : ℕ) → WrongAt n on_rows ls k m b → WrongAt n on_mask ls k m b
  from-rows ls h zero m b w = w
  from-rows [] h (suc zero) m b w = w
  from-rows (l ∷ []) h (suc zero) m b w = w
  from-rows (l ∷ k ∷ ls) h (suc zero) m b w = turn-alike (sym (other-turn (first_word (fields l)) h)) w
  from-rows [] h (suc (suc k)) m b w = w
  from-rows (l ∷ ls) h (suc (suc k)) m b w = w

  no-mask-judged : (ls : List (List ℕ)) → NoMaskFirst ls → (line : ℕ) (v : Result (Unit {0}) Refusal) → LinesJudged n on_rows ls line v → LinesJudged n on_mask ls line v
  no-mask-judged ls h line (Ok _) j = λ k m b w. j k m b (to-rows ls h k m b w)
  no-mask-judged ls h line (Err q) j =
      (j.0, j.1, record { is = from-rows ls h (suc j.0) (number q) (field q) j.2.is; first = λ k m b w. j.2.first k m b (to-rows ls h k m b w) })

-- ---- the lines after the cover

module _ (cover : Cover) where
  -- those after the mask, whatever the mask
  after-mask-judged : (line mask : ℕ) (ls : List (List ℕ)) → LinesJudged cover.n on_rows ls line (body_bad line (contents_with cover mask ls) ls)
  after-mask-judged line mask ls =
      let r = length (rows_of cover.n cover.order ls) in
      let found = blocks_of (heard_front (drop r ls)) (drop r ls) in
      let b = length found in
      let c : length (contents_with cover mask ls).blocks ≡ b = by-position-length cover.order found in
      let e : line + r + b ≡ r + (b + line) = omega arith in
      rw (c, e) (rows-judged cover.n cover.order ls line)

  -- by the mask
  by_mask : (l m : List ℕ) (ms : List (List ℕ)) (found : Result (Option ℕ) Fault) → MaskJudged cover.n (fields l) found
      → let ls = l ∷ m ∷ ms in LinesJudged cover.n on_mask ls 2 (bad_by found (contents_with cover (mask_in found) (drop (masks_in found) ls)) ls)
  by_mask l m ms (Ok (Some w)) j =
      on cover.n on_mask on_rows l m ms 2 (body_bad 3 (contents_with cover w (m ∷ ms)) (m ∷ ms)) j.0 (ap after j.1)
      (after-mask-judged 3 w (m ∷ ms))
  by_mask l m ms (Ok None) j =
      no-mask-judged cover.n (l ∷ m ∷ ms) j 2 (body_bad 2 (contents_with cover 0 (l ∷ m ∷ ms)) (l ∷ m ∷ ms)) (after-mask-judged 2 0 (l ∷ m ∷ ms))
  by_mask l m ms (Err fault) j = first-here cover.n on_mask l m ms 2 fault j

  -- all of them, by the verdict of the sheet's definition
  pub body-judged : (ls : List (List ℕ)) → LinesJudged cover.n on_mask ls 2 (line_bad (contents_of cover ls) ls)
  body-judged [] = no-mask-judged cover.n [] tt 2 (body_bad 2 (contents_with cover 0 []) []) (after-mask-judged 2 0 [])
  body-judged (l ∷ []) = no-mask-judged cover.n (l ∷ []) tt 2 (body_bad 2 (contents_with cover 0 (l ∷ [])) (l ∷ [])) (after-mask-judged 2 0 (l ∷ []))
  body-judged (l ∷ m ∷ ms) = by_mask l m ms (mask_of cover.n cover.order (fields l)) (mask-judged cover.n cover.order (fields l))
