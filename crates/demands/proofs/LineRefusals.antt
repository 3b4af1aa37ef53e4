-- The refusal of a sheet's bad line: its number is one of five, and number, line and field tell it, so that the first fault gives one refusal.
use borrow.Author.Tests.{eqb-false}
use lib.Dec.{eqb}
use mathlib.Core.Bool.{Bool, cond, false, true}
use mathlib.Core.List.{List, [], ◌∷◌}
use mathlib.Core.Logic.{inl, inr}
use mathlib.Core.Path.{ap, ap₂, refl, sym, ◌∙◌, ◌≡◌}
use native.Mathlib.Omega.{arith}
use Prim.Native.Nat.{zero, suc, ℕ}
use Rattle.demands.specs.SheetRefusals.{Among, first_fault, line_numbers}
use Rattle.plates.specs.declared.Refusal.{Refusal}
use Rattle.plates.specs.declared.Refusal.TheVariants as Q
use Rattle.plates.specs.Refusals.{field, number, place}
use Rattle.sheets.specs.declared.word.Word.{Word}
use Rattle.sheets.specs.declared.word.Word.TheVariants as W
use Rattle.sheets.specs.Faults.{Before, BeforeAt, Open, Part, Wrong, WrongAt, WrongHere, after, first_word, form_number, malformed, miscounted, out_of_turn}
use Rattle.sheets.specs.Faults.{on_blocks, on_cover, on_heard, on_mask, on_nothing, on_rows}
use Rattle.sheets.specs.Sheet.{contents}
use Rattle.sheets.specs.Text.{fields, lines}

-- ---- a number among some

-- none of them is this one
abbrev pub apart : ℕ → List ℕ → Bool
apart i [] = true
apart i (j ∷ js) = cond (eqb i j) false (apart i js)

not-here : (i j : ℕ) (js : List ℕ) (b : Bool) → eqb i j ≡ b → cond b false (apart i js) ≡ true → (apart i js ≡ true → Among i js → ⊥) → Among i (j ∷ js) → ⊥
not-here i j js true e t rest a = let z : ◌≡◌ {A = ℕ} 0 1 = cc in omega arith
not-here i j js false e t rest (inl h) = eqb-false i j e h
not-here i j js false e t rest (inr h) = rest t h

pub not-among : (i : ℕ) (js : List ℕ) → apart i js ≡ true → Among i js → ⊥
not-among i [] t a = a
not-among i (j ∷ js) t a = not-here i j js (eqb i j) refl t (not-among i js) a

-- ---- the numbers of faults

form-among : (w : Word) (i : ℕ) → i ≡ form_number w → Among i line_numbers
form-among W.Cover i e = inr (inr (inr (inl e)))
form-among W.Mask i e = inr (inr (inr (inr (inl e))))
form-among W.Row i e = inr (inr (inr (inr (inl e))))
form-among W.Block i e = inr (inr (inr (inl e)))
form-among W.Heard i e = inr (inr (inr (inl e)))
form-among W.End i e = inr (inr (inr (inl e)))
form-among W.Other i e = inr (inr (inr (inl e)))

wrong-among : (n : ℕ) (part : Part) (fs : List (List ℕ)) (i at : ℕ) → Wrong n part fs i at → Among i line_numbers
wrong-among n part fs i at (out_of_turn t e f) = inr (inl e)
wrong-among n part fs i at (miscounted t e f) = inr (inr (inl e))
wrong-among n part fs i at (malformed l m t e) = form-among (first_word fs) i e

open-among : (part : Part) (text : List ℕ) (i at : ℕ) → Open part text i at → Among i line_numbers
open-among on_cover text i at x = inl x.0
open-among on_mask text i at x = inl x.0
open-among on_rows text i at x = inl x.0
open-among on_blocks text i at x = inl x.0
open-among on_heard text i at x = inl x.0
open-among on_nothing [] i at x = absurd x
open-among on_nothing (b ∷ bs) i at x = inl x.0

here-among : (n : ℕ) (part : Part) (ls : List (List ℕ)) (i at : ℕ) → WrongHere n part ls i at → Among i line_numbers
here-among n part [] i at x = open-among part [] i at x
here-among n part (l ∷ []) i at x = open-among part l i at x
here-among n part (l ∷ m ∷ ls) i at x = wrong-among n part (fields l) i at x

fault-among : (n : ℕ) (part : Part) (ls : List (List ℕ)) (line i at : ℕ) → WrongAt n part ls line i at → Among i line_numbers
fault-among n part ls zero i at x = absurd x
fault-among n part ls (suc zero) i at x = here-among n part ls i at x
fault-among n part [] (suc (suc k)) i at x = absurd x
fault-among n part (l ∷ ls) (suc (suc k)) i at x = fault-among n (after (first_word (fields l))) ls (suc k) i at x

-- a line is bad with one of the five numbers
pub line-number : (s : List ℕ) (q : Refusal) → first_fault s q → Among (number q) line_numbers
line-number s q x = fault-among (contents s).n on_cover (lines s) (place q) (number q) (field q) x.is

-- ---- they tell the refusal

abbrev line_refusal : ℕ → ℕ → ℕ → Refusal
line_refusal i line at =
    cond (eqb i 10) (Q.SheetLine line)
    (cond (eqb i 17) (Q.FirstField line) (cond (eqb i 18) (Q.FieldCount line at) (cond (eqb i 19) (Q.FieldValue line at) (Q.RowField line at))))

other-number : {A : Type 0} (i : ℕ) → apart i line_numbers ≡ true → Among i line_numbers → A
other-number i t a = absurd (not-among i line_numbers t a)

is-line-refusal : (q : Refusal) → Among (number q) line_numbers → q ≡ line_refusal (number q) (place q) (field q)
is-line-refusal (Q.SheetLine line) a = refl
is-line-refusal (Q.FirstField line) a = refl
is-line-refusal (Q.FieldCount line at) a = refl
is-line-refusal (Q.FieldValue line at) a = refl
is-line-refusal (Q.RowField line at) a = refl
is-line-refusal Q.Length a = other-number 1 refl a
is-line-refusal Q.TooManyRows a = other-number 2 refl a
is-line-refusal (Q.RowBeyond row) a = other-number 3 refl a
is-line-refusal (Q.TooWide depth) a = other-number 4 refl a
is-line-refusal Q.NotPrepared a = other-number 5 refl a
is-line-refusal Q.SampleCount a = other-number 6 refl a
is-line-refusal (Q.SampleRange position) a = other-number 7 refl a
is-line-refusal Q.MetricRoom a = other-number 8 refl a
is-line-refusal Q.DecisionRoom a = other-number 9 refl a
is-line-refusal Q.LineRoom a = other-number 11 refl a
is-line-refusal Q.NoSuchBranch a = other-number 12 refl a
is-line-refusal Q.InformationBeyond a = other-number 13 refl a
is-line-refusal Q.NoCodeword a = other-number 14 refl a
is-line-refusal Q.InputTooLong a = other-number 15 refl a
is-line-refusal (Q.AlistFault line) a = other-number 16 refl a
is-line-refusal Q.PositionBeyond a = other-number 21 refl a
is-line-refusal Q.WholeSpace a = other-number 22 refl a
is-line-refusal Q.MaskBeyond a = other-number 23 refl a
is-line-refusal Q.BadSetting a = other-number 24 refl a
is-line-refusal (Q.NotANumber position) a = other-number 25 refl a
is-line-refusal (Q.BranchFault line) a = other-number 26 refl a
is-line-refusal (Q.BranchTwice line) a = other-number 27 refl a
is-line-refusal Q.TooManyLines a = other-number 28 refl a

-- ---- there is one first fault

within-line : (i at j to : ℕ) → Before i at j to → Before j to i at → (i ≡ j) × (at ≡ to)
within-line i at j to (inl h) (inl g) = absurd (omega (arith, h, g))
within-line i at j to (inl h) (inr g) = absurd (omega (arith, h, g.0))
within-line i at j to (inr h) (inl g) = absurd (omega (arith, h.0, g))
within-line i at j to (inr h) (inr g) = (h.0, omega (arith, h.1, g.1))

first-once : (k i at l j to : ℕ) → BeforeAt k i at l j to → BeforeAt l j to k i at → (k ≡ l) × (i ≡ j) × (at ≡ to)
first-once k i at l j to (inl h) (inl g) = absurd (omega (arith, h, g))
first-once k i at l j to (inl h) (inr g) = absurd (omega (arith, h, g.0))
first-once k i at l j to (inr h) (inl g) = absurd (omega (arith, h.0, g))
first-once k i at l j to (inr h) (inr g) = let w = within-line i at j to h.1 g.1 in (h.0, w.0, w.1)

pub one-fault : (s : List ℕ) (p q : Refusal) → first_fault s p → first_fault s q → p ≡ q
one-fault s p q x y =
    let h = x.first (place q) (number q) (field q) y.is in
    let g = y.first (place p) (number p) (field p) x.is in
    let e = first-once (place p) (number p) (field p) (place q) (number q) (field q) h g in
    is-line-refusal p (line-number s p x)
    ∙ ap (λ (i : ℕ). line_refusal i (place p) (field p)) e.1
    ∙ ap₂ (λ (k at : ℕ). line_refusal (number q) k at) e.0 e.2
    ∙ sym (is-line-refusal q (line-number s q y))
