-- What the verb same prints, and how it ends.
use Rattle.std.specs.Prelude.{pos, ℤ, Bool, false, true, List, ◌≡◌, ℕ, Ok, Err}
use Rattle.outlines.specs.Comparing.{PrintsTold}
use Rattle.outlines.specs.declared.comparing.Told.{Told}
use Rattle.outlines.specs.declared.comparing.Told.TheVariants.{First, Lengths, Mirrored, Same, Second}
use Rattle.outlines.specs.declared.opening.Which.{Which}
use Rattle.outlines.specs.declared.opening.Which.TheVariants.{Own}
use Rattle.outlines.specs.Opening.{Opened}
use Rattle.plates.specs.declared.Prepared.{Prepared}
use Rattle.plates.specs.declared.Refusal.{Refusal}
use Rattle.programs.specs.declared.comparing.Outcome.{Outcome}
use Rattle.programs.specs.declared.comparing.Outcome.TheVariants as O
use Rattle.programs.specs.Ending.{status_of}
use Rattle.programs.specs.Verbs.{RefusedEnding}

-- whether same is told
abbrev pub is_same : Told → Bool
is_same Same = true
is_same Mirrored = false
is_same Lengths = false
is_same (First w) = false
is_same (Second w) = false

-- the line that two inputs are to print, and whether it says same
pub record IsTold (same : Bool) (first second text : List ℕ) : Type 0 where
  pub told : Told
  pub prints : PrintsTold first second text told
  pub is : same ≡ is_same told

-- the input or its matrix, or that of its dual, is refused
pub record PlateRefused (which : Which) (input : List ℕ) (q : Refusal) : Type 0 where
  pub prepared : Prepared
  pub opened : Opened which input prepared
  pub refused : prepared.verdict ≡ Err q

-- an input that is not refused
pub record IsAccepted (input : List ℕ) : Type 0 where
  pub prepared : Prepared
  pub opened : Opened Own input prepared
  pub accepted : prepared.verdict ≡ Ok tt

-- the line was taken at once; or that of the first input's refusal, else of the second's, as a refusal's is; or not all was taken
abbrev pub SaysSameAs : List ℕ → List ℕ → Outcome → Type 0
SaysSameAs first second (O.Same sent) = (sent.lines ≡ 1) × ((text : List ℕ) × IsTold true first second text)
SaysSameAs first second (O.Different sent) = (sent.lines ≡ 1) × ((text : List ℕ) × IsTold false first second text)
SaysSameAs first second (O.First ending) = (q : Refusal) × PlateRefused Own first q × RefusedEnding q ending
SaysSameAs first second (O.Second ending) = (q : Refusal) × IsAccepted first × PlateRefused Own second q × RefusedEnding q ending
SaysSameAs first second O.Unwritten = Unit {0}

pub record SaysSame (first second : List ℕ) (r : Outcome) : Type 0 where
  pub is : SaysSameAs first second r

-- 0 for same, 1 for what is not and for a refused input, 2 where not all was taken
abbrev pub outcome_status : Outcome → ℤ
outcome_status (O.Same sent) = pos 0
outcome_status (O.Different sent) = pos 1
outcome_status (O.First ending) = status_of ending
outcome_status (O.Second ending) = status_of ending
outcome_status O.Unwritten = pos 2
