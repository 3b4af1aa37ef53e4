-- What the verbs of yendrufal print that hand over one text, and how they end.
use Rattle.std.specs.Prelude.{List, ◌≡◌, ℕ, Result, Err}
use Rattle.outlines.specs.declared.opening.Which.{Which}
use Rattle.outlines.specs.declared.opening.Which.TheVariants as W
use Rattle.outlines.specs.Opening.{Opened}
use Rattle.outlines.specs.Outline.{WritesPlateSheet}
use Rattle.outlines.specs.Words.{PrintsSheet}
use Rattle.plates.specs.declared.Prepared.{Prepared}
use Rattle.plates.specs.declared.Refusal.{Refusal}
use Rattle.programs.specs.declared.endings.Ending.{Ending}
use Rattle.programs.specs.declared.endings.Ending.TheVariants.{Listed, Refused, Unwritten}
use Rattle.programs.specs.declared.writer.Text.{Text}
use Rattle.programs.specs.declared.writer.Text.TheVariants.{Dual, Sheet}

-- whose plate a text is of
abbrev pub which_of : Text → Which
which_of Sheet = W.Own
which_of Dual = W.Dual

-- the text that an input is to print
pub record IsText (what : Text) (input text : List ℕ) : Type 0 where
  pub is : PrintsSheet (which_of what) input text

-- the promise of the call that writes it
pub record WritesText (what : Text) (input room : List ℕ) (r : Result ℕ Refusal) (room' : List ℕ) : Type 0 where
  pub is : WritesPlateSheet (which_of what) input room r room'

-- the input or its matrix is refused
pub record IsRefused (what : Text) (input : List ℕ) (q : Refusal) : Type 0 where
  pub prepared : Prepared
  pub opened : Opened (which_of what) input prepared
  pub refused : prepared.verdict ≡ Err q

-- all of the text was taken at once; or the line of the input's refusal was; or not all was taken
abbrev pub SaysAs : Text → List ℕ → Ending → Type 0
SaysAs what input (Listed sent) = (sent.lines ≡ 1) × ((text : List ℕ) × IsText what input text)
SaysAs what input (Refused q sent) = (sent.lines ≡ 1) × IsRefused what input q
SaysAs what input Unwritten = Unit {0}

pub record Says (what : Text) (input : List ℕ) (r : Ending) : Type 0 where
  pub is : SaysAs what input r

-- how a run ends that prints a refusal and nothing more
abbrev pub RefusedAs : Refusal → Ending → Type 0
RefusedAs q (Listed sent) = ⊥
RefusedAs q (Refused p sent) = (p ≡ q) × (sent.lines ≡ 1)
RefusedAs q Unwritten = Unit {0}

pub record RefusedEnding (q : Refusal) (r : Ending) : Type 0 where
  pub is : RefusedAs q r
