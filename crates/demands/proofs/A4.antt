-- A4, `last` covers the whole sheet: rows (and the mask, A11), block samples and printed words. What a sheet says is by position
-- (sheets/specs/Sheet: `contents`, Turning: `in_order`), so that demand 2 is read after the turning. One statement covers both cover words.
use Rattle.plates.specs.declared.Refusal.{Refusal}
use Rattle.decoding.specs.declared.Answer.{Answer}
use Rattle.std.proofs.Common.{Some, Result}
use lib.Dec.{eqb}
use lib.IntN.{nat_abs, pos, ℤ}
use lib.ListN.{get_or, length}
use mathlib.Core.Bool.{◌&&◌, true}
use mathlib.Core.List.{List, ◌∷◌, reverse}
use mathlib.Core.Path.{refl, ◌≡◌}
use Prim.Native.Nat.{◌<◌, ℕ, ◌≤◌}
use Rattle.decoding.specs.Decode.{SampleOver}
use Rattle.decoding.specs.Metric.{limit}
use Rattle.listings.specs.Lines.{positions}
use Rattle.plates.specs.declared.Prepared.{Prepared}
use Rattle.plates.specs.declared.Refusal.TheVariants.{SampleRange}
use Rattle.reports.proofs.PrintedMeaning.{printed-in-order}
use Rattle.reports.proofs.SameAnswers.{answers-listed, same-answers, turned-listed}
use Rattle.reports.specs.Answers.{Answers, listing_lines}
use Rattle.reports.specs.Printed.{printed_as}
use Rattle.reports.specs.Report.{Reports}
use Rattle.sheets.proofs.TurnedSheets.{turned-says}
use Rattle.sheets.proofs.TurnedText.{text-turned}
use Rattle.sheets.specs.declared.Order.{Order}
use Rattle.sheets.specs.declared.Order.TheVariants.{Last}
use Rattle.sheets.specs.Rows.{bits_only, row_of, word_from}
use Rattle.sheets.specs.Sheet.{Contents, reading, says}
use Rattle.sheets.specs.Turned.{IsTurned, other, text_turned, under_other}
use Rattle.sheets.specs.Turning.{by_position, in_order}

-- ---- what `last` applies to

-- rows: the characters of the field from the far end
pub last-turns-rows : (n : ℕ) (f : List ℕ) → (eqb (length f) n && bits_only f) ≡ true → row_of n Last f ≡ Some (word_from (reverse f))
last-turns-rows n f e = rw e

-- block samples: those of each line from the far end
pub last-turns-samples : (listed : List ℤ) (blocks : List (List ℤ)) → by_position Last (listed ∷ blocks) ≡ reverse listed ∷ by_position Last blocks
last-turns-samples listed blocks = refl

-- printed words: the positions in the cover's order
pub last-turns-printed : (order : Order) (n word : ℕ) → positions (printed_as order n word) 0 n ≡ in_order order (positions word 0 n)
last-turns-printed = printed-in-order

-- a refused sample's place is still the position: samples are judged in order of position
pub place-is-position : (samples : List ℤ) (i : ℕ) → SampleOver samples (SampleRange i) → (i < length samples) × (limit < nat_abs (get_or samples i (pos 0)))
place-is-position samples i s = let e : i ≡ s.position = place_of s.is in rw e (s.there, s.over)
  where
    place_of : {j : ℕ} → SampleRange i ≡ SampleRange j → i ≡ j
    place_of e = cc

-- ---- one statement for both cover words

-- t is the sheet s with every row and block reversed under the other word: each text has one, which may be a byte longer
pub every-sheet-turns : (s : List ℕ) → IsTurned s (text_turned s)
every-sheet-turns = text-turned

-- a sheet not refused, and that sheet, say the same by position
pub turned-says-same : (s t : List ℕ) → IsTurned s t → length t ≤ 32768 → (c : Contents) → reading s ≡ says c → reading t ≡ says (under_other c)
turned-says-same = turned-says

-- and give the same plate and the same answers by position
pub turned-answers-same : (s t : List ℕ) → IsTurned s t → length t ≤ 32768 → (prepared : Prepared) (answers : List (Result Answer Refusal))
    → Answers s prepared answers → Answers t prepared answers
turned-answers-same = same-answers

-- each listing has these answers, in its cover's order
pub listing-has-answers : (s : List ℕ) (prepared : Prepared) (answers : List (Result Answer Refusal)) (a : Answers s prepared answers)
    → Reports s (listing_lines a.sheet.order prepared.plate a.sheet answers)
listing-has-answers = answers-listed

pub turned-listing-has-answers : (s t : List ℕ) → IsTurned s t → length t ≤ 32768 → (prepared : Prepared) (answers : List (Result Answer Refusal))
    → (a : Answers s prepared answers) → Reports t (listing_lines (other a.sheet.order) prepared.plate a.sheet answers)
turned-listing-has-answers = turned-listed
