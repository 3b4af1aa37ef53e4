-- The line that comes next of a report, and the report after it, apart from the rooms of the call that gives it: there is one of each.
use Rattle.plates.specs.declared.Refusal.{Refusal}
use Rattle.decoding.specs.declared.Answer.{Answer}
use Rattle.std.proofs.Common.{◌≡◌, ℕ, Bool, true, false, List, ℤ, sym, ap, ◌∙◌, Result}
use Rattle.listings.specs.Lines.{line_of_end, tally_line}
use Rattle.plates.specs.Prepare.{IsPrepared}
use Rattle.sheets.specs.Blocks.{BlockFound, block, block_at, counter_at, next_line, no_block}
use Rattle.sheets.specs.Turning.{in_order}
use Rattle.reports.specs.declared.Report.{Report}
use Rattle.reports.specs.declared.Stage.{Stage}
use Rattle.reports.specs.declared.Stage.TheVariants as S
use Rattle.reports.specs.Remaining.{Ready, ReadyAt}
use Rattle.reports.specs.Report.{BlockAnswer, line_of_plate, line_of_profile, line_of_refusal}
use Rattle.reports.specs.Steps.{after_line, closed, to_blocks, to_nothing, to_profile}
use Rattle.reports.proofs.LinesGiven.{line_here}
use Rattle.reports.proofs.ReportDetermined.{reply-determined}

-- the line of a block, by the answer for it
pub record BlockComes (counter : ℕ) (samples : List ℤ) (report : Report) (next : ℕ) (line : List ℕ) (after : Report) : Type 0 where
  pub reply : Result Answer Refusal
  pub answer : BlockAnswer report.plate samples reply
  pub line_is : line ≡ line_here report counter reply
  pub after_is : after ≡ after_line next report counter samples reply

-- after the last: the tally of a sheet of heard lines, or the end line
abbrev pub closing_line : Bool → Report → List ℕ
closing_line false report = line_of_end report.blocks
closing_line true report = tally_line report.kept.tally

abbrev pub BlocksCome : BlockFound → ℕ → ℕ → Report → List ℕ → Report → Type 0
BlocksCome (block listed) counter next report line after = BlockComes counter (in_order report.order listed) report next line after
BlocksCome no_block counter next report line after = (line ≡ closing_line report.heard report) × (after ≡ closed report.heard report)

abbrev pub ComesAt : Stage → List ℕ → Report → List ℕ → Report → Type 0
ComesAt (S.Refused q) input report line after = (line ≡ line_of_refusal q) × (after ≡ to_nothing report)
ComesAt S.PlateLine input report line after = (line ≡ line_of_plate report.plate) × (after ≡ to_profile report)
ComesAt S.ProfileLine input report line after = (line ≡ line_of_profile report.plate) × (after ≡ to_blocks report.at report)
ComesAt S.BlockLines input report line after =
    BlocksCome (block_at report.heard input report.at) (counter_at input report.at) (next_line input report.at) report line after
ComesAt S.EndLine input report line after = (line ≡ line_of_end report.blocks) × (after ≡ to_nothing report)
ComesAt S.Done input report line after = ⊥

-- this line comes next, and this report after it
abbrev pub Comes : List ℕ → Report → List ℕ → Report → Type 0
Comes input report line after = ComesAt report.stage input report line after

-- ---- there is one of each

module _ (report : Report) (k l : List ℕ) (after other : Report) where
  abbrev Same : Type 0
  Same = (k ≡ l) × (after ≡ other)

  both-are : {line : List ℕ} {next : Report} → (k ≡ line) × (after ≡ next) → (l ≡ line) × (other ≡ next) → Same
  both-are x y = (x.0 ∙ sym y.0, x.1 ∙ sym y.1)

  block_same : (counter next : ℕ) (samples : List ℤ) → IsPrepared report.plate → BlockComes counter samples report next k after
      → BlockComes counter samples report next l other → Same
  block_same counter next samples prepared x y =
      let e = reply-determined report.order report.plate prepared samples x.reply y.reply x.answer y.answer in
      (x.line_is ∙ ap (line_here report counter) e ∙ sym y.line_is, x.after_is ∙ ap (after_line next report counter samples) e ∙ sym y.after_is)

  blocks-same : (found : BlockFound) (counter next : ℕ) → IsPrepared report.plate → BlocksCome found counter next report k after
      → BlocksCome found counter next report l other → Same
  blocks-same (block listed) counter next prepared x y = block_same counter next (in_order report.order listed) prepared x y
  blocks-same no_block counter next prepared x y = both-are x y

  stage-same : (input : List ℕ) (stage : Stage) → ReadyAt stage input report → ComesAt stage input report k after → ComesAt stage input report l other → Same
  stage-same input (S.Refused q) ready x y = both-are x y
  stage-same input S.PlateLine ready x y = both-are x y
  stage-same input S.ProfileLine ready x y = both-are x y
  stage-same input S.BlockLines ready x y =
      blocks-same (block_at report.heard input report.at) (counter_at input report.at) (next_line input report.at) ready.0 x y
  stage-same input S.EndLine ready x y = both-are x y
  stage-same input S.Done ready x y = absurd x

pub comes-determined : (input : List ℕ) (report : Report) (k l : List ℕ) (after other : Report) → Ready input report → Comes input report k after
    → Comes input report l other → (k ≡ l) × (after ≡ other)
comes-determined input report k l after other ready x y = stage-same report k l after other input report.stage ready x y
