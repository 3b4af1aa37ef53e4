-- What opening a report and taking its next line reply, and what they leave in the lent rooms.
use Rattle.std.specs.Prelude.{None, ◌≡◌, ℕ, ◌<◌, ◌≤◌, Bool, true, false, cond, ◌&&◌, List, length, ℤ, ◌==◌, nat_lt, Result, Ok, Err, Some}
use Rattle.plates.specs.declared.Kind.{Kind}
use Rattle.plates.specs.declared.Plate.{Plate}
use Rattle.plates.specs.declared.Prepared.{Prepared}
use Rattle.plates.specs.declared.Refusal.{Refusal}
use Rattle.plates.specs.declared.Refusal.TheVariants.{LineRoom}
use Rattle.plates.specs.Prepare.{Prepares, zero_plate}
use Rattle.plates.specs.Refusals.{field, number, place}
use Rattle.decoding.specs.declared.Answer.{Answer}
use Rattle.decoding.specs.Decode.{Decodes}
use Rattle.listings.specs.Writing.{WritesPlate, WritesProfile, WritesOf, WritesRefused, WritesEnd, WritesTally}
use Rattle.sheets.specs.Blocks.{BlockFound, block, no_block, block_at, counter_at, next_line}
use Rattle.sheets.specs.Turning.{in_order}
use Rattle.sheets.specs.declared.Order.{Order}
use Rattle.sheets.specs.declared.Order.TheVariants.{First}
use Rattle.sheets.specs.Sheet.{Reading, says, refused, reading, start_of}
use Rattle.reports.specs.declared.Stage.{Stage}
use Rattle.reports.specs.declared.Stage.TheVariants as S
use Rattle.reports.specs.declared.Report.{Report}
use Rattle.reports.specs.declared.tally.Kept.{Kept}
use Rattle.reports.specs.declared.Step.{Step}
use Rattle.reports.specs.Report.{line_of_answer}
use Rattle.reports.specs.Tally.{is_repeat, no_tally, raised_by, reference_of, share, standing}

-- ---- open

-- nothing is kept yet
abbrev pub nothing_kept : Kept
nothing_kept = record { reference = None; tally = no_tally }

-- the report that says a refusal, and nothing more
abbrev pub refused_report : Refusal → Report
refused_report q = record { stage = S.Refused q; plate = zero_plate; order = First; at = 0; heard = false; blocks = 0; kept = nothing_kept }

-- the report of a sheet whose first block line, or end, begins at `at`, by what preparing says
abbrev pub report_by : Result (Unit {0}) Refusal → Plate → Order → ℕ → Bool → ℕ → Report
report_by (Err q) plate order at heard blocks = refused_report q
report_by (Ok _) plate order at heard blocks =
    record { stage = S.PlateLine; plate = plate; order = order; at = at; heard = heard; blocks = blocks; kept = nothing_kept }

-- a sheet that is not refused: its matrix is prepared with its mask
pub record OpensSheet (n : ℕ) (kind : Kind) (rows : List ℕ) (mask : ℕ) (order : Order) (at : ℕ) (heard : Bool) (blocks : ℕ) (r : Report) : Type 0 where
  pub prepared : Prepared
  pub prepares : Prepares n kind rows mask prepared
  pub is : r ≡ report_by prepared.verdict prepared.plate order at heard blocks

abbrev pub OpensAs : List ℕ → Reading → Report → Type 0
OpensAs input (refused q) r = r ≡ refused_report q
OpensAs input (says sheet) r = OpensSheet sheet.n sheet.kind sheet.rows sheet.mask sheet.order (start_of input sheet) sheet.heard (length sheet.blocks) r

-- What opening replies: the report of the input, which stands before its first line
pub record Opens (input : List ℕ) (r : Report) : Type 0 where
  pub is : OpensAs input (reading input) r

-- ---- next_line

-- the same report, at another stage and place
abbrev pub to : Stage → ℕ → Report → Report
to stage at report =
    record { stage = stage; plate = report.plate; order = report.order; at = at; heard = report.heard; blocks = report.blocks; kept = report.kept }

-- the profile line comes next
abbrev pub to_profile : Report → Report
to_profile report = to S.ProfileLine report.at report

-- the block lines from a place on come next
abbrev pub to_blocks : ℕ → Report → Report
to_blocks at report = to S.BlockLines at report

-- the end line comes next
abbrev pub to_end : Report → Report
to_end report = to S.EndLine report.at report

-- what is kept after a line of a sheet of heard lines, or of blocks
abbrev pub kept_after : Bool → Kept → ℕ → List ℤ → Result Answer Refusal → Kept
kept_after false kept counter samples decoded = kept
kept_after true kept counter samples decoded = record {
  reference = reference_of kept.reference counter decoded;
  tally = raised_by kept.tally (share kept.reference counter samples decoded);
}

-- the lines from a place on come next, after a line of this counter and these samples, by what decoding replied
abbrev pub after_line : ℕ → Report → ℕ → List ℤ → Result Answer Refusal → Report
after_line next report counter samples decoded = record {
  stage = S.BlockLines;
  plate = report.plate;
  order = report.order;
  at = next;
  heard = report.heard;
  blocks = report.blocks;
  kept = kept_after report.heard report.kept counter samples decoded;
}

-- a repeat prints no line
abbrev pub is_silent : Report → ℕ → Bool
is_silent report counter = report.heard && is_repeat (standing report.kept.reference counter)

-- nothing comes next
abbrev pub to_nothing : Report → Report
to_nothing report = to S.Done report.at report

-- the step by what writing the line replied: the line's length and the report after it, or the refusal and the report as it was
abbrev pub step_by : Result ℕ Refusal → Report → Report → Step
step_by (Ok size) before after = record { outcome = Ok (Some size); next = after }
step_by (Err q) before after = record { outcome = Err q; next = before }

-- a refusal of what was lent
abbrev pub refused_step : Refusal → Report → Step
refused_step q report = record { outcome = Err q; next = report }

-- nothing is left
abbrev pub nothing_left : Report → Step
nothing_left report = record { outcome = Ok None; next = report }

-- a repeat gives a line of no bytes
abbrev pub silent_step : Report → Step
silent_step after = record { outcome = Ok (Some 0); next = after }

-- the working rooms are as they were
pub record Untouched (metrics metrics' : List ℤ) (decisions decisions' : List ℕ) : Type 0 where
  pub metrics_same : metrics' ≡ metrics
  pub decisions_same : decisions' ≡ decisions

-- a line is written, by the promise of a call that writes one
pub record WritesStep (Promise : Result ℕ Refusal → List ℕ → Type 0) (before after : Report) (step : Step) (room' : List ℕ) : Type 0 where
  pub written : Result ℕ Refusal
  pub writes : Promise written room'
  pub is : step ≡ step_by written before after

-- a refusal that the sheet's block meets, and that is printed: 6 and 7
abbrev pub of_block : Refusal → Bool
of_block q = cond (number q == 6) true (number q == 7)

-- a block whose decoding is refused: 6 and 7 are printed, others refuse the call
abbrev pub RefusedStep : Bool → Refusal → Report → Report → List ℕ → Step → List ℕ → Type 0
RefusedStep true q before after room step room' = WritesStep (WritesRefused (number q) (place q) (field q) room) before after step room'
RefusedStep false q before after room step room' = (step ≡ refused_step q before) × (room' ≡ room)

-- an answer is of a plate whose words have at most 64 positions
abbrev pub Printable : Result Answer Refusal → Plate → Type 0
Printable (Ok a) plate = plate.n ≤ 64
Printable (Err q) plate = Unit {0}

-- an answer: its line, or none for a repeat
abbrev pub FoundStep : Bool → Answer → Report → Report → List ℕ → Step → List ℕ → Type 0
FoundStep true a before after room step room' = (step ≡ silent_step after) × (room' ≡ room)
FoundStep false a before after room step room' =
    WritesStep (WritesOf before.plate (line_of_answer before.order before.plate a) room) before after step room'

-- the step by what decoding replied to a line of this counter
abbrev pub DecodedStep : ℕ → Result Answer Refusal → Report → Report → List ℕ → Step → List ℕ → Type 0
DecodedStep counter (Ok a) before after room step room' = FoundStep (is_silent before counter) a before after room step room'
DecodedStep counter (Err q) before after room step room' = RefusedStep (of_block q) q before after room step room'

-- what is lent to a call, and what it leaves
pub record Lent : Type 0 where
  pub metrics : List ℤ
  pub decisions : List ℕ
  pub room : List ℕ

abbrev pub lends : List ℤ → List ℕ → List ℕ → Lent
lends metrics decisions room = record { metrics = metrics; decisions = decisions; room = room }

-- a block is decoded, after which the next line begins at `next`
pub record BlockStep (counter : ℕ) (samples : List ℤ) (before : Report) (next : ℕ) (lent : Lent) (step : Step) (left : Lent) : Type 0 where
  pub decoded : Result Answer Refusal
  pub decodes : Decodes before.plate samples lent.metrics lent.decisions left.metrics left.decisions decoded
  pub line : DecodedStep counter decoded before (after_line next before counter samples decoded) lent.room step left.room

-- a step that only writes
pub record LineStep (Promise : Result ℕ Refusal → List ℕ → Type 0) (before after : Report) (lent : Lent) (step : Step) (left : Lent) : Type 0 where
  pub line : WritesStep Promise before after step left.room
  pub working : Untouched lent.metrics left.metrics lent.decisions left.decisions

-- a step that changes nothing lent
pub record StillStep (answer : Step) (lent : Lent) (step : Step) (left : Lent) : Type 0 where
  pub is : step ≡ answer
  pub same : left ≡ lent

-- how many of the 64 places that samples are read into are decoded: none where there were more samples, which are not n in any case
abbrev pub decodable : ℕ → ℕ
decodable count = cond (nat_lt 64 count) 0 count

-- the line of a block is worked out in a line room of at least 256 bytes, which every line fits: decoding changes the working rooms, so a
-- line that is then too long for its room could not be refused with nothing changed
pub data RoomStep (counter : ℕ) (samples : List ℤ) (before : Report) (next : ℕ) (lent : Lent) (step : Step) (left : Lent) : Type 0 where
  short : length lent.room < 256 → StillStep (refused_step LineRoom before) lent step left → RoomStep counter samples before next lent step left
  enough : 256 ≤ length lent.room → BlockStep counter samples before next lent step left → RoomStep counter samples before next lent step left

-- after the last line: the tally of a sheet of heard lines, or the end line
abbrev pub Closes : Bool → Report → List ℕ → Result ℕ Refusal → List ℕ → Type 0
Closes false report room = WritesEnd report.blocks room
Closes true report room = WritesTally report.kept.tally room

abbrev pub closed : Bool → Report → Report
closed false report = to_nothing report
closed true report = to_end report

-- at a place of the input: the block or heard line there, its listed samples taken in order of position, or what comes after the last
abbrev pub BlocksStep : BlockFound → ℕ → ℕ → Report → Lent → Step → Lent → Type 0
BlocksStep (block listed) counter next report lent step left = RoomStep counter (in_order report.order listed) report next lent step left
BlocksStep no_block counter next report lent step left = LineStep (Closes report.heard report lent.room) report (closed report.heard report) lent step left

-- the step at each stage of a report
abbrev pub StepsAt : Stage → List ℕ → Report → Lent → Step → Lent → Type 0
StepsAt (S.Refused q) input report lent step left =
    LineStep (WritesRefused (number q) (place q) (field q) lent.room) report (to_nothing report) lent step left
StepsAt S.PlateLine input report lent step left =
    LineStep (WritesPlate report.plate lent.room) report (to_profile report) lent step left
StepsAt S.ProfileLine input report lent step left =
    LineStep (WritesProfile report.plate lent.room) report (to_blocks report.at report) lent step left
StepsAt S.BlockLines input report lent step left =
    BlocksStep (block_at report.heard input report.at) (counter_at input report.at) (next_line input report.at) report lent step left
StepsAt S.EndLine input report lent step left = LineStep (WritesEnd report.blocks lent.room) report (to_nothing report) lent step left
StepsAt S.Done input report lent step left = StillStep (nothing_left report) lent step left

-- What taking the next line replies
pub record Steps (report : Report) (input : List ℕ) (lent : Lent) (step : Step) (left : Lent) : Type 0 where
  pub is : StepsAt report.stage input report lent step left
