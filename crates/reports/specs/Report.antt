-- The listing of an input: the lines that the paper gives it, in order.
use Rattle.std.specs.Prelude.{Option, None, ◌≡◌, ℕ, Bool, true, false, cond, List, [], ◌∷◌, ◌++◌, length, ℤ, Result, Ok, Err}
use Rattle.plates.specs.declared.Plate.{Plate}
use Rattle.plates.specs.declared.Prepared.{Prepared}
use Rattle.plates.specs.declared.Refusal.{Refusal}
use Rattle.plates.specs.Prepare.{Prepares}
use Rattle.plates.specs.Refusals.{field, number, place, Passes, Refuses}
use Rattle.decoding.specs.declared.Answer.{Answer}
use Rattle.decoding.specs.Decode.{Best, SampleOver, sample_count}
use Rattle.listings.specs.Lines.{plate_line, profile_line, word_line, refused_line, line_of_end, tally_line}
use Rattle.listings.specs.Writing.{entries_of}
use Rattle.sheets.specs.declared.Order.{Order}
use Rattle.sheets.specs.Sheet.{Contents, Reading, says, refused, reading}
use Rattle.reports.specs.Printed.{printed_as}
use Rattle.reports.specs.Tally.{Heard, heards_of, is_repeat, plus, no_tally, reference_of, standing, tally_from}
use Rattle.listings.specs.declared.Tally.{Tally}
use Rattle.reports.specs.declared.tally.Kept.{Kept}

-- ---- the kinds of line

-- a refusal: its number and its place, which for a sheet's bad line is line and field
abbrev pub line_of_refusal : Refusal → List ℕ
line_of_refusal q = refused_line (number q) (place q) (field q)

-- a plate: n, k, m
abbrev pub line_of_plate : Plate → List ℕ
line_of_plate plate = plate_line plate.n plate.k (entries_of plate)

-- its profile
abbrev pub line_of_profile : Plate → List ℕ
line_of_profile plate = profile_line (entries_of plate)

-- the answer of decoding: word in the cover's order, metric, additions, comparisons
abbrev pub line_of_answer : Order → Plate → Answer → List ℕ
line_of_answer order plate a = word_line plate.n (printed_as order plate.n a.word) a.metric a.counts.additions a.counts.comparisons

-- ---- blocks

-- what a block may meet: 6 or 7
abbrev pub block_conditions : Plate → List ℤ → List (Refusal → Type 0)
block_conditions plate samples = sample_count plate samples ∷ SampleOver samples ∷ []

-- the line of a block, its samples in order of position: its refusal, or the word of greatest correlation
pub data BlockLine (order : Order) (plate : Plate) (samples : List ℤ) (line : List ℕ) : Type 0 where
  refused_block : (q : Refusal) → Refuses (block_conditions plate samples) q → line ≡ line_of_refusal q → BlockLine order plate samples line
  word_of_block : (a : Answer) → Passes (block_conditions plate samples) → Best plate samples a → line ≡ line_of_answer order plate a → BlockLine order plate samples line

-- a line for each block in order, and the end line with the number of block lines, refused ones included
abbrev pub BlocksReport : Order → Plate → ℕ → List (List ℤ) → List (List ℕ) → Type 0
BlocksReport order plate count [] lines = lines ≡ line_of_end count ∷ []
BlocksReport order plate count (samples ∷ blocks) [] = ⊥
BlocksReport order plate count (samples ∷ blocks) (line ∷ lines) = BlockLine order plate samples line × BlocksReport order plate count blocks lines

-- ---- heard lines

-- the answer for a block, its samples in order of position: 6 or 7, or the word of greatest correlation with its metric and counts
abbrev pub BlockAnswer : Plate → List ℤ → Result Answer Refusal → Type 0
BlockAnswer plate samples (Err q) = Refuses (block_conditions plate samples) q
BlockAnswer plate samples (Ok a) = Passes (block_conditions plate samples) × Best plate samples a

-- one for each block, in order
abbrev pub BlockAnswers : Plate → List (List ℤ) → List (Result Answer Refusal) → Type 0
BlockAnswers plate [] [] = Unit {0}
BlockAnswers plate [] (answer ∷ answers) = ⊥
BlockAnswers plate (samples ∷ blocks) [] = ⊥
BlockAnswers plate (samples ∷ blocks) (answer ∷ answers) = BlockAnswer plate samples answer × BlockAnswers plate blocks answers

-- the line of an answer
abbrev pub line_of : Order → Plate → Result Answer Refusal → List ℕ
line_of order plate (Ok a) = line_of_answer order plate a
line_of order plate (Err q) = line_of_refusal q

-- the line of a heard line, by the reference before it: a repeat that is not refused has none
abbrev pub line_of_heard : Order → Plate → Option ℕ → ℕ → Result Answer Refusal → List ℕ
line_of_heard order plate reference counter (Ok a) = cond (is_repeat (standing reference counter)) [] (line_of_answer order plate a)
line_of_heard order plate reference counter (Err q) = line_of_refusal q

-- those of some heard lines, and what follows
abbrev pub heard_lines : Order → Plate → Option ℕ → List Heard → List (List ℕ) → List (List ℕ)
heard_lines order plate reference [] rest = rest
heard_lines order plate reference (h ∷ hs) rest =
    line_of_heard order plate reference h.counter h.reply ∷ heard_lines order plate (reference_of reference h.counter h.reply) hs rest

-- the tally and the end line, with the number of heard lines
abbrev pub closing : Tally → ℕ → List (List ℕ)
closing tally count = tally_line tally ∷ line_of_end count ∷ []

-- a line for each heard line, the tally of all of them with what was kept before, and the end line
pub record HeardsReport (order : Order) (plate : Plate) (count : ℕ) (kept : Kept) (counters : List ℕ) (blocks : List (List ℤ)) (lines : List (List ℕ)) : Type 0 where
  pub replies : List (Result Answer Refusal)
  pub answered : BlockAnswers plate blocks replies
  pub are : let heards = heards_of counters blocks replies in
      lines ≡ heard_lines order plate kept.reference heards (closing (plus kept.tally (tally_from kept.reference heards)) count)

-- block or heard lines
abbrev pub LinesReport : Bool → Order → Plate → ℕ → Kept → List ℕ → List (List ℤ) → List (List ℕ) → Type 0
LinesReport false order plate count kept counters blocks lines = BlocksReport order plate count blocks lines
LinesReport true order plate count kept counters blocks lines = HeardsReport order plate count kept counters blocks lines

-- nothing is kept before the first
abbrev pub at_first : Kept
at_first = record { reference = None; tally = no_tally }

-- ---- the whole

-- the profile line, and those of the blocks or heard lines
abbrev pub ProfileReports : Plate → (List (List ℕ) → Type 0) → List (List ℕ) → Type 0
ProfileReports plate Rest [] = ⊥
ProfileReports plate Rest (line ∷ lines) = (line ≡ line_of_profile plate) × Rest lines

-- the plate line before them
abbrev pub PlateReports : Plate → (List (List ℕ) → Type 0) → List (List ℕ) → Type 0
PlateReports plate Rest [] = ⊥
PlateReports plate Rest (line ∷ lines) = (line ≡ line_of_plate plate) × ProfileReports plate Rest lines

-- a matrix that is refused prints one line and nothing more
abbrev pub PreparedReports : Result (Unit {0}) Refusal → Plate → Contents → List (List ℕ) → Type 0
PreparedReports (Err q) plate sheet lines = lines ≡ line_of_refusal q ∷ []
PreparedReports (Ok _) plate sheet lines =
    PlateReports plate (LinesReport sheet.heard sheet.order plate (length sheet.blocks) at_first sheet.counters sheet.blocks) lines

-- the sheet's matrix is prepared with its mask
pub record SheetReports (sheet : Contents) (lines : List (List ℕ)) : Type 0 where
  pub prepared : Prepared
  pub prepares : Prepares sheet.n sheet.kind sheet.rows sheet.mask prepared
  pub is : PreparedReports prepared.verdict prepared.plate sheet lines

-- a sheet that is refused prints one line and nothing more
abbrev pub ReportsAs : Reading → List (List ℕ) → Type 0
ReportsAs (refused q) lines = lines ≡ line_of_refusal q ∷ []
ReportsAs (says sheet) lines = SheetReports sheet lines

-- the lines that an input is to give
pub record Reports (input : List ℕ) (lines : List (List ℕ)) : Type 0 where
  pub is : ReportsAs (reading input) lines

-- lines one after another
abbrev pub joined : List (List ℕ) → List ℕ
joined [] = []
joined (line ∷ lines) = line ++ joined lines

-- the listing of an input, from bytes to bytes
pub record Lists (input listing : List ℕ) : Type 0 where
  pub lines : List (List ℕ)
  pub reports : Reports input lines
  pub bytes : listing ≡ joined lines
