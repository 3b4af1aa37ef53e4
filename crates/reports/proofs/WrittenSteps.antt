-- A step by the line that was written.
use Rattle.std.proofs.Common.{◌≡◌, ℕ, Bool, true, false, List, ℤ, sym, refl, subst, Result}
use Rattle.plates.specs.declared.Refusal.{Refusal}
use Rattle.plates.specs.Refusals.{field, number, place}
use Rattle.decoding.specs.declared.Answer.{Answer}
use Rattle.reports.specs.Printed.{printed_as}
use Rattle.reports.specs.Report.{line_of_answer}
use Rattle.listings.specs.Writing.{WritesOf, WritesRefused, WritesWord}
use Rattle.reports.specs.declared.Report.{Report}
use Rattle.reports.specs.declared.Stage.{Stage}
use Rattle.reports.specs.declared.Step.{Step}
use Rattle.reports.specs.Steps.{Closes, Lent, LineStep, RefusedStep, Steps, StepsAt, WritesStep, closed, lends, of_block, refused_step, step_by}

module _ {Promise : Result ℕ Refusal → List ℕ → Type 0} {before after after' : Report} {step : Step} {room' : List ℕ} where
  -- the report after it, as it was made
  pub after_is : after' ≡ after → WritesStep Promise before after' step room' → WritesStep Promise before after step room'
  after_is e w = rw (← e) w

  -- a line written
  pub writes-step : (written : Result ℕ Refusal) → after' ≡ after → Promise written room' → step ≡ step_by written before after' → WritesStep Promise before after step room'
  writes-step written e p s = after_is e (record { written = written; writes = p; is = s })

-- the line of a refusal
pub refusal-written : {before after : Report} {step : Step} {room room' : List ℕ} (written : Result ℕ Refusal) (q : Refusal) {n p f : ℕ} → n ≡ number q → p ≡ place q → f ≡ field q
    → WritesRefused n p f room written room' → step ≡ step_by written before after
    → WritesStep (WritesRefused (number q) (place q) (field q) room) before after step room'
refusal-written written q a b c w s = writes-step written refl (rw (← a, ← b, ← c) w) s

-- the line of an answer, whose metric is passed on
pub answer-written : {before after : Report} {step : Step} {room room' : List ℕ} (written : Result ℕ Refusal) (a : Answer) {word : ℕ} {metric : ℤ}
    → word ≡ printed_as before.order before.plate.n a.word → metric ≡ a.metric
    → WritesWord before.plate word metric a.counts.additions a.counts.comparisons room written room' → step ≡ step_by written before after
    → WritesStep (WritesOf before.plate (line_of_answer before.order before.plate a) room) before after step room'
answer-written {before = before} {room = room} {room' = room'} written a p e w s = writes-step written refl
    (subst (λ (m : ℤ). WritesWord before.plate (printed_as before.order before.plate.n a.word) m a.counts.additions a.counts.comparisons room written room') e (rw (← p) w)) s

module _ (q : Refusal) (before after : Report) {room room' : List ℕ} {step : Step} {r : Bool} (e : r ≡ of_block q) where
  -- a refusal that is printed
  pub printed : r ≡ true → WritesStep (WritesRefused (number q) (place q) (field q) room) before after step room' → RefusedStep (of_block q) q before after room step room'
  printed t w = rw (← e, t) w

  -- one that is not
  pub not-printed : r ≡ false → step ≡ refused_step q before → room' ≡ room → RefusedStep (of_block q) q before after room step room'
  not-printed t s same = rw (← e, t) (s, same)

-- the step at the stage where a report is
pub at-its-stage : {report : Report} {input : List ℕ} {lent left : Lent} {step : Step} (stage : Stage) → report.stage ≡ stage → StepsAt stage input report lent step left
    → Steps report input lent step left
at-its-stage {report} {input} {lent} {left} {step} stage e s = record { is = subst (λ (at : Stage). StepsAt at input report lent step left) (sym e) s }

-- a step that only writes leaves the working rooms
pub only-writes : {Promise : Result ℕ Refusal → List ℕ → Type 0} {before after : Report} {step : Step} {metrics : List ℤ} {decisions room room' : List ℕ}
    → WritesStep Promise before after step room' → LineStep Promise before after (lends metrics decisions room) step (lends metrics decisions room')
only-writes w = record { line = w; working = record { metrics_same = refl; decisions_same = refl } }

-- after the last line, by whether they are heard lines
pub close-step : {step : Step} {room' : List ℕ} (room : List ℕ) (report : Report) (heard : Bool) → report.heard ≡ heard
    → WritesStep (Closes heard report room) report (closed heard report) step room' → WritesStep (Closes report.heard report room) report (closed report.heard report) step room'
close-step {step} {room'} room report heard e w = subst (λ (h : Bool). WritesStep (Closes h report room) report (closed h report) step room') (sym e) w
