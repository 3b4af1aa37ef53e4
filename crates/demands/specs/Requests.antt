-- What the theorems of some requests say, where that is more than a line.
use Rattle.plates.specs.declared.Refusal.{Refusal}
use Rattle.std.specs.Prelude.{ℤ, length, ◌++◌, List, [], ◌∷◌, ◌≡◌, ◌+◌, ℕ, Result}
use Rattle.decoding.specs.declared.Answer.{Answer}
use Rattle.decoding.specs.Metric.{metric_of}
use Rattle.listings.specs.Lines.{line_of_end, tally_line}
use Rattle.plates.specs.declared.Plate.{Plate}
use Rattle.plates.specs.Prepare.{IsWord}
use Rattle.reports.specs.Report.{BlockAnswers}
use Rattle.reports.specs.Tally.{heards_of, tally_of}
use Rattle.sheets.specs.Sheet.{Contents}
use Rattle.words.specs.Word.{bit}

-- ---- A3

-- a word with bit b at the position that scores as much as the answer
pub record AsGood (plate : Plate) (samples : List ℤ) (a : Answer) (position b : ℕ) : Type 0 where
  pub word : ℕ
  pub codeword : IsWord plate word
  pub has : bit word position ≡ b
  pub metric : metric_of samples word ≡ a.metric

-- ---- A5

-- what a listing of heard lines ends with: the tally of its lines, and the number that `end` prints
pub record TallyTold (sheet : Contents) (plate : Plate) (lines : List (List ℕ)) : Type 0 where
  pub replies : List (Result Answer Refusal)
  pub answered : BlockAnswers plate sheet.blocks replies
  pub before : List (List ℕ)
  pub are : let heards = heards_of sheet.counters sheet.blocks replies in
      lines ≡ before ++ (tally_line (tally_of heards) ∷ line_of_end (length sheet.blocks) ∷ [])
  pub together : let t = tally_of (heards_of sheet.counters sheet.blocks replies) in t.decoded + t.refused + t.repeated ≡ length sheet.blocks
