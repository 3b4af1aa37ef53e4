-- The answers of a sheet by position: its plate, and for each block its refusal or its word, whatever the cover's last word.
use Rattle.plates.specs.declared.Refusal.{Refusal}
use Rattle.decoding.specs.declared.Answer.{Answer}
use Rattle.std.specs.Prelude.{None, ◌≡◌, ℕ, Bool, true, false, List, [], ◌∷◌, length, ℤ, Result, Ok}
use Rattle.plates.specs.declared.Plate.{Plate}
use Rattle.plates.specs.declared.Prepared.{Prepared}
use Rattle.plates.specs.Prepare.{Prepares}
use Rattle.listings.specs.Lines.{line_of_end}
use Rattle.sheets.specs.declared.Order.{Order}
use Rattle.sheets.specs.Sheet.{Contents, says, reading}
use Rattle.reports.specs.Report.{BlockAnswers, closing, heard_lines, line_of, line_of_plate, line_of_profile}
use Rattle.reports.specs.Tally.{heards_of, tally_of}

-- the input is a sheet that is not refused, this is what preparing replies for its matrix, and these are the answers for its blocks
pub record Answers (input : List ℕ) (prepared : Prepared) (answers : List (Result Answer Refusal)) : Type 0 where
  pub sheet : Contents
  pub reads : reading input ≡ says sheet
  pub prepares : Prepares sheet.n sheet.kind sheet.rows sheet.mask prepared
  pub accepted : prepared.verdict ≡ Ok tt
  pub blocks : BlockAnswers prepared.plate sheet.blocks answers

-- ---- as they are listed

-- the lines of the answers, and the end line
abbrev pub answer_lines : Order → Plate → ℕ → List (Result Answer Refusal) → List (List ℕ)
answer_lines order plate count [] = line_of_end count ∷ []
answer_lines order plate count (answer ∷ answers) = line_of order plate answer ∷ answer_lines order plate count answers

-- those of a sheet of heard lines, with its tally
abbrev pub heard_answer_lines : Order → Plate → List ℕ → List (List ℤ) → List (Result Answer Refusal) → List (List ℕ)
heard_answer_lines order plate counters blocks answers =
    let heards = heards_of counters blocks answers in
    heard_lines order plate None heards (closing (tally_of heards) (length answers))

abbrev pub lines_of_answers : Bool → Order → Plate → List ℕ → List (List ℤ) → List (Result Answer Refusal) → List (List ℕ)
lines_of_answers false order plate counters blocks answers = answer_lines order plate (length answers) answers
lines_of_answers true order plate counters blocks answers = heard_answer_lines order plate counters blocks answers

-- the listing that says them, in an order
abbrev pub listing_lines : Order → Plate → Contents → List (Result Answer Refusal) → List (List ℕ)
listing_lines order plate sheet answers = line_of_plate plate ∷ line_of_profile plate ∷ lines_of_answers sheet.heard order plate sheet.counters sheet.blocks answers
