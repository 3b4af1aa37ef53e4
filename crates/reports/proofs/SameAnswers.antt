-- One statement covers both cover words: a sheet not refused, and the sheet turned, give the same plate and the same answers by position.
use Rattle.plates.specs.declared.Refusal.{Refusal}
use Rattle.decoding.specs.declared.Answer.{Answer}
use Rattle.std.proofs.Common.{None, ◌≡◌, ℕ, suc, ◌≤◌, Bool, true, false, List, [], ◌∷◌, length, ℤ, sym, refl, ap, subst, ap₂, Result, Ok, Err}
use Rattle.plates.specs.declared.Plate.{Plate}
use Rattle.plates.specs.declared.Prepared.{Prepared}
use Rattle.sheets.proofs.TurnedSheets.{turned-says}
use Rattle.sheets.proofs.TurnedText.{text-turned}
use Rattle.sheets.specs.declared.Order.{Order}
use Rattle.sheets.specs.Sheet.{Contents, Reading}
use Rattle.sheets.specs.Turned.{IsTurned, other, text_turned, under_other}
use Rattle.reports.specs.Answers.{Answers, answer_lines, lines_of_answers, listing_lines}
use Rattle.reports.specs.Tally.{heards_of, tally_of}
use Rattle.listings.specs.declared.Tally.{Tally}
use Rattle.reports.proofs.TallyLaws.{none-plus}
use Rattle.reports.specs.Report.{BlockAnswer, BlockAnswers, BlockLine, BlocksReport, LinesReport, PreparedReports, Reports, ReportsAs, at_first, closing, heard_lines, line_of, refused_block, word_of_block}

-- ---- the same answers

module _ (input turned : List ℕ) (t : IsTurned input turned) (short : length turned ≤ 32768) (prepared : Prepared) (answers : List (Result Answer Refusal)) where
  -- a sheet not refused, and the sheet with every row and block reversed, and the samples of every heard line, under the other word
  pub same-answers : Answers input prepared answers → Answers turned prepared answers
  same-answers a = record {
    sheet = under_other a.sheet;
    reads = turned-says input turned t short a.sheet a.reads;
    prepares = a.prepares;
    accepted = a.accepted;
    blocks = a.blocks;
  }

-- for the turned text itself
pub turned-text-answers : (input : List ℕ) → length (text_turned input) ≤ 32768 → (prepared : Prepared) (answers : List (Result Answer Refusal))
    → Answers input prepared answers → Answers (text_turned input) prepared answers
turned-text-answers input short prepared answers a = same-answers input (text_turned input) (text-turned input) short prepared answers a

-- ---- the listings

module _ (order : Order) (plate : Plate) where
  answer-line : (samples : List ℤ) (answer : Result Answer Refusal) → BlockAnswer plate samples answer → BlockLine order plate samples (line_of order plate answer)
  answer-line samples (Err q) x = refused_block q x refl
  answer-line samples (Ok a) x = word_of_block a x.0 x.1 refl

  answers-report : (count : ℕ) (blocks : List (List ℤ)) (answers : List (Result Answer Refusal)) → BlockAnswers plate blocks answers
      → BlocksReport order plate count blocks (answer_lines order plate count answers)
  answers-report count [] [] x = refl
  answers-report count [] (answer ∷ answers) x = absurd x
  answers-report count (samples ∷ blocks) [] x = absurd x
  answers-report count (samples ∷ blocks) (answer ∷ answers) x = (answer-line samples answer x.0, answers-report count blocks answers x.1)

  answers-counted : (blocks : List (List ℤ)) (answers : List (Result Answer Refusal)) → BlockAnswers plate blocks answers → length answers ≡ length blocks
  answers-counted [] [] x = refl
  answers-counted [] (answer ∷ answers) x = absurd x
  answers-counted (samples ∷ blocks) [] x = absurd x
  answers-counted (samples ∷ blocks) (answer ∷ answers) x = ap suc (answers-counted blocks answers x.1)

  answers-lines : (heard : Bool) (sheet : Contents) (answers : List (Result Answer Refusal)) → BlockAnswers plate sheet.blocks answers
      → LinesReport heard order plate (length sheet.blocks) at_first sheet.counters sheet.blocks (lines_of_answers heard order plate sheet.counters sheet.blocks answers)
  answers-lines false sheet answers x =
      subst (λ (count : ℕ). BlocksReport order plate count sheet.blocks (answer_lines order plate (length answers) answers)) (answers-counted sheet.blocks answers x)
      (answers-report (length answers) sheet.blocks answers x)
  answers-lines true sheet answers x =
      let hs = heards_of sheet.counters sheet.blocks answers in
      record {
        replies = answers;
        answered = x;
        are = ap₂ (λ (t : Tally) (count : ℕ). heard_lines order plate None hs (closing t count)) (sym (none-plus (tally_of hs))) (answers-counted sheet.blocks answers x);
      }

-- the listing of a sheet says its answers, in the cover's order
pub answers-listed : (input : List ℕ) (prepared : Prepared) (answers : List (Result Answer Refusal)) (a : Answers input prepared answers)
    → Reports input (listing_lines a.sheet.order prepared.plate a.sheet answers)
answers-listed input prepared answers a = record {
  is = subst (λ (found : Reading). ReportsAs found (listing_lines a.sheet.order prepared.plate a.sheet answers)) (sym a.reads) (record {
    prepared = prepared;
    prepares = a.prepares;
    is = subst (λ (v : Result (Unit {0}) Refusal). PreparedReports v prepared.plate a.sheet (listing_lines a.sheet.order prepared.plate a.sheet answers))
        (sym a.accepted) (refl, (refl, answers-lines a.sheet.order prepared.plate a.sheet.heard a.sheet answers a.blocks));
  });
}

-- so does that of the turned sheet, in the other order, with the same tally
pub turned-listed : (input turned : List ℕ) → IsTurned input turned → length turned ≤ 32768 → (prepared : Prepared) (answers : List (Result Answer Refusal)) (a : Answers input prepared answers)
    → Reports turned (listing_lines (other a.sheet.order) prepared.plate a.sheet answers)
unfolding same-answers
turned-listed input turned t short prepared answers a =
    answers-listed turned prepared answers (same-answers input turned t short prepared answers a)
