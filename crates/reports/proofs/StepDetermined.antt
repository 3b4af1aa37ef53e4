-- Determined: two replies of `open`, and of `next_line` with all that is lent, that meet the promise are equal.
use Rattle.std.proofs.Common.{◌≡◌, ℕ, Bool, true, false, List, length, ℤ, sym, ap, ◌∙◌, subst, ap₂, arith, Result, Ok, Err}
use Rattle.plates.proofs.PrepareDetermined.{prepare-determined}
use Rattle.plates.specs.declared.Prepared.{Prepared}
use Rattle.plates.specs.declared.Refusal.{Refusal}
use Rattle.plates.specs.Refusals.{field, number, place}
use Rattle.decoding.proofs.DecodeDetermined.{decode-determined}
use Rattle.decoding.specs.declared.Answer.{Answer}
use Rattle.listings.proofs.Determined.{write-end-determined, write-tally-determined, write-plate-determined, write-profile-determined, write-refused-determined, write-word-determined}
use Rattle.sheets.specs.Blocks.{BlockFound, block, block_at, counter_at, next_line, no_block}
use Rattle.sheets.specs.Turning.{in_order}
use Rattle.sheets.specs.Sheet.{Reading, says, refused, reading, start_of}
use Rattle.reports.specs.Printed.{printed_as}
use Rattle.reports.specs.declared.Stage.{Stage}
use Rattle.reports.specs.declared.Stage.TheVariants as S
use Rattle.reports.specs.declared.Report.{Report}
use Rattle.reports.specs.declared.Step.{Step}
use Rattle.reports.specs.Steps.{BlockStep, BlocksStep, Closes, DecodedStep, FoundStep, Lent, LineStep, Opens, OpensAs, RefusedStep, RoomStep, StillStep, Steps, StepsAt, WritesStep, after_line, closed, enough, is_silent, lends, of_block, report_by, short, step_by}

-- ---- open

opens-same : (input : List ℕ) (found : Reading) (a b : Report) → OpensAs input found a → OpensAs input found b → a ≡ b
opens-same input (refused q) a b x y = x ∙ sym y
opens-same input (says c) a b x y =
    let e = prepare-determined c.n c.kind c.rows c.mask x.prepared y.prepared x.prepares y.prepares in
    x.is ∙ ap (λ (r : Prepared). report_by r.verdict r.plate c.order (start_of input c) c.heard (length c.blocks)) e ∙ sym y.is

pub open-determined : (input : List ℕ) (a b : Report) → Opens input a → Opens input b → a ≡ b
open-determined input a b x y = opens-same input (reading input) a b x.is y.is

-- ---- next_line

lent_same : (a b : Lent) → a.metrics ≡ b.metrics → a.decisions ≡ b.decisions → a.room ≡ b.room → a ≡ b
lent_same a b m d r =
    ap (λ (x : List ℤ). lends x a.decisions a.room) m ∙ ap₂ (λ (x y : List ℕ). lends b.metrics x y) d r

-- a promise that determines its reply and the room
abbrev Fixes : (Result ℕ Refusal → List ℕ → Type 0) → Type 0
Fixes Promise = (w v : Result ℕ Refusal) (a b : List ℕ) → Promise w a → Promise v b → (w ≡ v) × (a ≡ b)

module _ (before after : Report) (s t : Step) where
  written_same : (Promise : Result ℕ Refusal → List ℕ → Type 0) → Fixes Promise → (a b : List ℕ) → WritesStep Promise before after s a → WritesStep Promise before after t b → (s ≡ t) × (a ≡ b)
  written_same Promise fixes a b x y =
      let e = fixes x.written y.written a b x.writes y.writes in
      (x.is ∙ ap (λ (w : Result ℕ Refusal). step_by w before after) e.0 ∙ sym y.is, e.1)

  refused-same : (r : Bool) (q : Refusal) (room a b : List ℕ) → RefusedStep r q before after room s a → RefusedStep r q before after room t b → (s ≡ t) × (a ≡ b)
  refused-same true q room a b x y = written_same _ (λ w v c d. write-refused-determined (number q) (place q) (field q)) a b x y
  refused-same false q room a b x y = (x.0 ∙ sym y.0, x.1 ∙ sym y.1)

  found-same : (silent : Bool) (a : Answer) (room c d : List ℕ) → FoundStep silent a before after room s c → FoundStep silent a before after room t d → (s ≡ t) × (c ≡ d)
  found-same true a room c d x y = (x.0 ∙ sym y.0, x.1 ∙ sym y.1)
  found-same false a room c d x y =
      written_same _ (λ w v e f. write-word-determined before.plate (printed_as before.order before.plate.n a.word) a.metric a.counts.additions a.counts.comparisons) c d x y

  decoded-same : (counter : ℕ) (d : Result Answer Refusal) (room a b : List ℕ) → DecodedStep counter d before after room s a → DecodedStep counter d before after room t b → (s ≡ t) × (a ≡ b)
  decoded-same counter (Ok a) room c d x y = found-same (is_silent before counter) a room c d x y
  decoded-same counter (Err q) room a b x y = refused-same (of_block q) q room a b x y

  module _ (lent a b : Lent) where
    abbrev Same : Type 0
    Same = (s ≡ t) × (a ≡ b)

    line_same : (Promise : Result ℕ Refusal → List ℕ → Type 0) → Fixes Promise → LineStep Promise before after lent s a → LineStep Promise before after lent t b → Same
    line_same Promise fixes x y =
        let e = written_same Promise fixes a.room b.room x.line y.line in
        (e.0, lent_same a b (x.working.metrics_same ∙ sym y.working.metrics_same) (x.working.decisions_same ∙ sym y.working.decisions_same) e.1)

    still-same : (answer : Step) → StillStep answer lent s a → StillStep answer lent t b → Same
    still-same answer x y = (x.is ∙ sym y.is, x.same ∙ sym y.same)

module _ (before : Report) (s t : Step) (lent a b : Lent) (counter next : ℕ) (samples : List ℤ) where
  block_same : BlockStep counter samples before next lent s a → BlockStep counter samples before next lent t b → (s ≡ t) × (a ≡ b)
  block_same x y =
      let d = decode-determined before.plate samples lent.metrics lent.decisions x.decoded y.decoded _ _ _ _ x.decodes y.decodes in
      let e = decoded-same before (after_line next before counter samples x.decoded) s t counter x.decoded lent.room a.room b.room x.line
      (subst (λ (r : Result Answer Refusal). DecodedStep counter r before (after_line next before counter samples r) lent.room t b.room) (sym d.0) y.line) in
      (e.0, lent_same a b d.1 d.2 e.1)

  room-same : RoomStep counter samples before next lent s a → RoomStep counter samples before next lent t b → (s ≡ t) × (a ≡ b)
  room-same (short h x) (short k y) = still-same before before s t lent a b _ x y
  room-same (short h x) (enough k y) = absurd (omega (arith, h, k))
  room-same (enough h x) (short k y) = absurd (omega (arith, h, k))
  room-same (enough h x) (enough k y) = block_same x y

module _ (report : Report) (s t : Step) (lent a b : Lent) where
  close-same : (heard : Bool) → LineStep (Closes heard report lent.room) report (closed heard report) lent s a → LineStep (Closes heard report lent.room) report (closed heard report) lent t b
      → (s ≡ t) × (a ≡ b)
  close-same false x y = line_same report _ s t lent a b _ (λ w v c d. write-end-determined report.blocks) x y
  close-same true x y = line_same report _ s t lent a b _ (λ w v c d. write-tally-determined report.kept.tally) x y

  blocks-same : (found : BlockFound) (counter next : ℕ) → BlocksStep found counter next report lent s a → BlocksStep found counter next report lent t b → (s ≡ t) × (a ≡ b)
  blocks-same (block listed) counter next x y = room-same report s t lent a b counter next (in_order report.order listed) x y
  blocks-same no_block counter next x y = close-same report.heard x y

  stage-same : (input : List ℕ) (stage : Stage) → StepsAt stage input report lent s a → StepsAt stage input report lent t b → (s ≡ t) × (a ≡ b)
  stage-same input (S.Refused q) x y = line_same report _ s t lent a b _ (λ w v c d. write-refused-determined (number q) (place q) (field q)) x y
  stage-same input S.PlateLine x y = line_same report _ s t lent a b _ (λ w v c d. write-plate-determined report.plate) x y
  stage-same input S.ProfileLine x y = line_same report _ s t lent a b _ (λ w v c d. write-profile-determined report.plate) x y
  stage-same input S.BlockLines x y = blocks-same (block_at report.heard input report.at) (counter_at input report.at) (next_line input report.at) x y
  stage-same input S.EndLine x y = line_same report _ s t lent a b _ (λ w v c d. write-end-determined report.blocks) x y
  stage-same input S.Done x y = still-same report report s t lent a b _ x y

pub next-line-determined : (report : Report) (input : List ℕ) (lent : Lent) (s t : Step) (a b : Lent) → Steps report input lent s a → Steps report input lent t b
    → (s ≡ t) × (a ≡ b)
next-line-determined report input lent s t a b x y = stage-same report s t lent a b input report.stage x.is y.is
