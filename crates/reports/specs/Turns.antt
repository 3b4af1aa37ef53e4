-- The lines of a report taken in turn, and the rooms that are enough for that.
use Rattle.std.specs.Prelude.{◌≡◌, ℕ, ◌≤◌, List, [], ◌∷◌, length, take, Ok, Some}
use Rattle.reports.specs.declared.Report.{Report}
use Rattle.reports.specs.declared.Step.{Step}
use Rattle.reports.specs.Steps.{Lent, Steps}

-- a line room of 256 bytes, 8,192 metrics and 4,096 decision words
pub record Enough (lent : Lent) : Type 0 where
  pub room : 256 ≤ length lent.room
  pub metrics : 8192 ≤ length lent.metrics
  pub decisions : 4096 ≤ length lent.decisions

-- one call of `next_line` in such rooms, which gave a line; and what follows it
pub record Turn (input : List ℕ) (report : Report) (line : List ℕ) (Then : Report → Type 0) : Type 0 where
  pub lent : Lent
  pub enough : Enough lent
  pub step : Step
  pub left : Lent
  pub steps : Steps report input lent step left
  pub size : ℕ
  pub outcome : step.outcome ≡ Ok (Some size)
  pub bytes : line ≡ take size left.room
  pub next : Then step.next

-- calls in turn, each on the report that the one before replied, gave these lines and came to the report `last`
abbrev pub Turns : List ℕ → Report → List (List ℕ) → Report → Type 0
Turns input report [] last = last ≡ report
Turns input report (line ∷ lines) last = Turn input report line (λ next. Turns input next lines last)
