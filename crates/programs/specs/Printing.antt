-- What trellis hands to its writer, line by line.
use Rattle.std.specs.Prelude.{IfSome, Option, get_or, length, List, [], ◌∷◌, ◌++◌, ◌≡◌, ◌+◌, ◌<◌, ℕ}
use Rattle.programs.specs.declared.listing.Turn.{Turn}
use Rattle.programs.specs.declared.listing.Turn.TheVariants.{Line, Whole}
use Rattle.programs.specs.declared.writer.Sent.{Sent}
use Rattle.reports.specs.declared.Report.{Report}
use Rattle.reports.specs.Report.{Reports}
use Rattle.reports.specs.Steps.{Opens}
use Rattle.reports.specs.Turns.{Turns}

-- from what `open` replies to the input, calls of `next_line` in turn gave these lines and came to this report
pub record Given (input : List ℕ) (lines : List (List ℕ)) (report : Report) : Type 0 where
  pub first : Report
  pub opens : Opens input first
  pub turns : Turns input first lines report

-- so many lines were given before this report
pub record Before (input : List ℕ) (count : ℕ) (report : Report) : Type 0 where
  pub lines : List (List ℕ)
  pub counted : length lines ≡ count
  pub given : Given input lines report

-- the line that is given after so many others
pub record IsLine (input : List ℕ) (count : ℕ) (line : List ℕ) : Type 0 where
  pub lines : List (List ℕ)
  pub counted : length lines ≡ count
  pub next : Report
  pub given : Given input (lines ++ line ∷ []) next

-- lines of which each is the one that the input gives after those before it
pub record InPlace (input : List ℕ) (lines : List (List ℕ)) : Type 0 where
  pub each : (j : ℕ) → j < length lines → IsLine input j (get_or lines j [])

-- so many lines of what was read are all that the whole input is to give: they are its report, and no other lines, each in its place, are so many
pub record AllLines (read whole : List ℕ) (count : ℕ) : Type 0 where
  pub lines : List (List ℕ)
  pub counted : length lines ≡ count
  pub reports : Reports whole lines
  pub in_place : InPlace read lines
  pub only : (handed : List (List ℕ)) → length handed ≡ count → InPlace read handed → handed ≡ lines

-- one line more was counted, below the most that the count can say
pub record OneMore (sent after : Sent) : Type 0 where
  pub is : after.lines ≡ sent.lines + 1
  pub below : sent.lines < 18446744073709551615

-- the writer counts a line exactly where it was taken
pub record Hands (sent : Sent) (r : Option Sent) : Type 0 where
  pub one_more : IfSome r (OneMore sent)

-- what one turn does: where a line was taken, as many lines were given as were taken; where none was left, all were
abbrev pub PrintsAs : List ℕ → Sent → Turn → Type 0
PrintsAs input sent (Line after next) = OneMore sent after × Before input after.lines next
PrintsAs input sent Whole = AllLines input input sent.lines

pub record Prints (input : List ℕ) (sent : Sent) (r : Option Turn) : Type 0 where
  pub is : IfSome r (PrintsAs input sent)
