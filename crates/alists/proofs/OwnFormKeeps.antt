-- A text in our form, read and written, keeps its bytes.
use mathlib.Core.List.{List, []}
use mathlib.Core.Path.{◌≡◌, ap, sym, ◌∙◌}
use Prim.Native.Nat.{ℕ}
use Rattle.alists.proofs.OnlyAccepted.{only-accepted}
use Rattle.alists.proofs.SpacedOnce.{lines-once, spaced-text}
use Rattle.alists.proofs.WrittenForm.{lines-in-order}
use Rattle.alists.specs.Accepted.{lines_ordered, spaced_once}
use Rattle.alists.specs.Lists.{columns}
use Rattle.alists.specs.OwnForm.{OwnForm}
use Rattle.alists.specs.Reading.{Reading, fault_in, matrix, reading}
use Rattle.alists.specs.Text.{alist_text, lines_of, matrix_text, text_of}

-- it has one space where there might be several
pub own-spaces : (text : List ℕ) → OwnForm text → spaced_once text ≡ text
own-spaces text f = ap spaced_once f.is ∙ spaced-text f.lines ∙ sym f.is

-- a text in our form that reads as a matrix is the text of that matrix
pub own-form-keeps : (text : List ℕ) (n : ℕ) (rows : List ℕ) → OwnForm text → reading text ≡ matrix n rows → alist_text n rows ≡ text
unfolding matrix_text
own-form-keeps text n rows f e =
    let a = only-accepted text n rows e in
    let l : f.lines ≡ a.lines = lines-once f.lines a.lines f.numbers a.numbers (sym f.is ∙ sym (own-spaces text f) ∙ a.is) in
    let k : f.lines ≡ lines_of (columns n rows) rows = sym (lines-in-order f.lines f.indices) ∙ ap lines_ordered l ∙ a.order in
    sym (f.is ∙ ap text_of k)

-- the text of what a reading says
abbrev pub rewritten : Reading → List ℕ
rewritten (matrix n rows) = alist_text n rows
rewritten (fault_in l) = []

-- read and written it keeps its bytes
pub own-form-rewritten : (text : List ℕ) (n : ℕ) (rows : List ℕ) → OwnForm text → reading text ≡ matrix n rows → rewritten (reading text) ≡ text
own-form-rewritten text n rows f e = ap rewritten e ∙ own-form-keeps text n rows f e
