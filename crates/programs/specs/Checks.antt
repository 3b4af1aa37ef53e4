-- What the verbs alist and from-alist print, and how they end.
use Rattle.std.specs.Prelude.{List, ◌≡◌, ℕ, Result}
use Rattle.outlines.specs.AlistText.{LacksAlist, PrintsAlist, PrintsFromAlist, WritesAlistOf, WritesFromAlist, matrix_in, not_given}
use Rattle.plates.specs.declared.Refusal.{Refusal}
use Rattle.programs.specs.declared.endings.Ending.{Ending}
use Rattle.programs.specs.declared.endings.Ending.TheVariants.{Listed, Refused, Unwritten}
use Rattle.programs.specs.declared.writer.Checks.{Checks}
use Rattle.programs.specs.declared.writer.Checks.TheVariants.{Alist, FromAlist}

-- the text that an input is to print
abbrev pub IsChecksAs : Checks → List ℕ → List ℕ → Type 0
IsChecksAs Alist = PrintsAlist
IsChecksAs FromAlist = PrintsFromAlist

pub record IsChecks (what : Checks) (input text : List ℕ) : Type 0 where
  pub is : IsChecksAs what input text

-- the promise of the call that writes it
abbrev pub WritesChecksAs : Checks → List ℕ → List ℕ → Result ℕ Refusal → List ℕ → Type 0
WritesChecksAs Alist = WritesAlistOf
WritesChecksAs FromAlist = WritesFromAlist

pub record WritesChecks (what : Checks) (input room : List ℕ) (r : Result ℕ Refusal) (room' : List ℕ) : Type 0 where
  pub is : WritesChecksAs what input room r room'

-- why there is no such text
abbrev pub LacksChecksAs : Checks → List ℕ → Refusal → Type 0
LacksChecksAs Alist input q = LacksAlist input q
LacksChecksAs FromAlist input q = matrix_in input ≡ not_given q

pub record LacksChecks (what : Checks) (input : List ℕ) (q : Refusal) : Type 0 where
  pub is : LacksChecksAs what input q

-- all of the text was taken at once; or the line of the refusal was; or not all was taken
abbrev pub SaysChecksAs : Checks → List ℕ → Ending → Type 0
SaysChecksAs what input (Listed sent) = (sent.lines ≡ 1) × ((text : List ℕ) × IsChecks what input text)
SaysChecksAs what input (Refused q sent) = (sent.lines ≡ 1) × LacksChecks what input q
SaysChecksAs what input Unwritten = Unit {0}

pub record SaysChecks (what : Checks) (input : List ℕ) (r : Ending) : Type 0 where
  pub is : SaysChecksAs what input r
