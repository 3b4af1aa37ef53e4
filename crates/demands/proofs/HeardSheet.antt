-- A5, worked on paper from its text: a sheet of six heard lines, and its listing byte for byte. Counters 65535, 0, 0, 40000, 3 and 3: the second
-- answer opposes its sample, the third line repeats the second, the fourth is out of turn with a zero sample, the fifth leaves 1 and 2 missing, the last
-- has no sample and is refused. The sum of metrics is 5 - 9 + 0 + 1.
use Rattle.std.proofs.Common.{Result, Ok, Err}
use Rattle.plates.specs.declared.Refusal.{Refusal}
use lib.Count.{count_leading_zeros, ones, ones_in, count_trailing_zeros}
use lib.IntN.{negsuc, pos, ℤ}
use mathlib.Core.Bool.{true}
use mathlib.Core.List.{◌++◌, List, [], ◌∷◌}
use mathlib.Core.Logic.{inl}
use mathlib.Core.Path.{refl, ◌≡◌}
use native.Mathlib.Omega.{arith}
use Prim.Native.Nat.{ℕ}
use Rattle.decoding.specs.declared.Answer.{Answer}
use Rattle.demands.proofs.BlocksChecked.{ready, tested, tested-best}
use Rattle.demands.proofs.Checking.{Check, both, by}
use Rattle.demands.proofs.PlatesChecked.{accepted}
use Rattle.demands.specs.Examples.{answer, zero_plate1}
use Rattle.listings.specs.Decimal.{decimal, signed_decimal}
use Rattle.listings.specs.Lines.{line_of_end, less, plate_line, profile_line, refused_line, tally_line, word_line}
use Rattle.plates.specs.declared.Kind.TheVariants.{G}
use Rattle.plates.specs.declared.Refusal.TheVariants.{SampleCount}
use Rattle.plates.specs.Prepare.{Prepares}
use Rattle.reports.proofs.SameAnswers.{answers-listed}
use Rattle.reports.specs.Answers.{Answers}
use Rattle.reports.specs.Report.{BlockAnswer, Lists}
use Rattle.sheets.specs.Covers.{cover_fields}
use Rattle.sheets.specs.declared.Order.TheVariants.{First}
use Rattle.sheets.specs.Sheet.{Contents, contents, reading, says, verdict}
use Rattle.sheets.specs.Words.{cover, end, first, heard}
use Rattle.trellises.specs.SectionOf.{with_active, with_row}
use Rattle.words.specs.Ends as E

-- cover 1 G first; heard 65535 5; heard 0 -9; heard 0 7; heard 40000 0; heard 3 1; heard 3; end
abbrev pub heard_text : List ℕ
heard_text =
    cover ++ 9 ∷ 49 ∷ 9 ∷ 71 ∷ 9 ∷ first ++ 10 ∷ heard ++ 9 ∷ 54 ∷ 53 ∷ 53 ∷ 51 ∷ 53 ∷ 9 ∷ 53 ∷ 10 ∷ heard ++ 9 ∷ 48 ∷ 9 ∷ 45 ∷ 57 ∷ 10
    ∷ heard ++ 9 ∷ 48 ∷ 9 ∷ 55 ∷ 10 ∷ heard ++ 9 ∷ 52 ∷ 48 ∷ 48 ∷ 48 ∷ 48 ∷ 9 ∷ 48 ∷ 10 ∷ heard ++ 9 ∷ 51 ∷ 9 ∷ 49 ∷ 10 ∷ heard ++ 9 ∷ 51 ∷ 10 ∷ end ++ 10 ∷ []

abbrev heard_contents : Contents
heard_contents = record {
  n = 1;
  kind = G;
  order = First;
  mask = 0;
  rows = [];
  heard = true;
  blocks = (pos 5 ∷ []) ∷ (negsuc 8 ∷ []) ∷ (pos 7 ∷ []) ∷ (pos 0 ∷ []) ∷ (pos 1 ∷ []) ∷ [] ∷ [];
  counters = 65535 ∷ 0 ∷ 0 ∷ 40000 ∷ 3 ∷ 3 ∷ [];
}

heard-read : reading heard_text ≡ says heard_contents
unfolding verdict contents cover_fields
heard-read = refl

-- the zero word alone
abbrev zero_word : ℤ → Answer
zero_word metric = answer 0 metric 1 0

abbrev replies : List (Result Answer Refusal)
replies =
    Ok (zero_word (pos 5)) ∷ Ok (zero_word (negsuc 8)) ∷ Ok (zero_word (pos 7))
    ∷ Ok (zero_word (pos 0)) ∷ Ok (zero_word (pos 1)) ∷ Err SampleCount ∷ []

abbrev answered : (samples : List ℤ) (a : Answer) → Check (BlockAnswer zero_plate1 samples (Ok a))
answered samples a =
    by (λ p. (
      ((λ q c. c.0 p.0.count), ((λ q c. omega (arith, c.over, p.0.within c.position c.there)), tt)),
      tested-best zero_plate1 samples a p.0 p.1,
    ))
    (both (ready zero_plate1 samples) (tested zero_plate1 samples a))

abbrev checks : Check (Prepares 1 G [] 0 (record { verdict = Ok tt; plate = zero_plate1 })
    × (BlockAnswer zero_plate1 (pos 5 ∷ []) (Ok (zero_word (pos 5)))
    × (BlockAnswer zero_plate1 (negsuc 8 ∷ []) (Ok (zero_word (negsuc 8)))
    × (BlockAnswer zero_plate1 (pos 7 ∷ []) (Ok (zero_word (pos 7)))
    × (BlockAnswer zero_plate1 (pos 0 ∷ []) (Ok (zero_word (pos 0))) × BlockAnswer zero_plate1 (pos 1 ∷ []) (Ok (zero_word (pos 1))))))))
checks =
    both (accepted 1 G [] 0 zero_plate1)
    (both (answered (pos 5 ∷ []) (zero_word (pos 5)))
    (both (answered (negsuc 8 ∷ []) (zero_word (negsuc 8)))
    (both (answered (pos 7 ∷ []) (zero_word (pos 7)))
    (both (answered (pos 0 ∷ []) (zero_word (pos 0))) (answered (pos 1 ∷ []) (zero_word (pos 1)))))))

heard-answers : Answers heard_text (record { verdict = Ok tt; plate = zero_plate1 }) replies
unfolding E.first E.last count_trailing_zeros count_leading_zeros with_row with_active ones ones_in
heard-answers =
    let c = checks.law tt in record {
      sheet = heard_contents;
      reads = heard-read;
      prepares = c.0;
      accepted = refl;
      blocks = (c.1.0, (c.1.1.0, (c.1.1.1.0, (c.1.1.1.1.0, (c.1.1.1.1.1, (inl ((λ e. omega (arith, e)), refl), tt))))));
    }

-- plate 1 0 0; profile 0 0; word 0 5 1 0; word 0 -9 1 0; word 0 0 1 0; word 0 1 1 0; refused 6 0; tally 4 1 1 1 2 1 1 -3 4; end 6
abbrev pub heard_listing : List ℕ
heard_listing =
    112 ∷ 108 ∷ 97 ∷ 116 ∷ 101 ∷ 9 ∷ 49 ∷ 9 ∷ 48 ∷ 9 ∷ 48 ∷ 10 ∷ 112 ∷ 114 ∷ 111 ∷ 102 ∷ 105 ∷ 108 ∷ 101 ∷ 9 ∷ 48 ∷ 9 ∷ 48 ∷ 10
    ∷ 119 ∷ 111 ∷ 114 ∷ 100 ∷ 9 ∷ 48 ∷ 9 ∷ 53 ∷ 9 ∷ 49 ∷ 9 ∷ 48 ∷ 10 ∷ 119 ∷ 111 ∷ 114 ∷ 100 ∷ 9 ∷ 48 ∷ 9 ∷ 45 ∷ 57 ∷ 9 ∷ 49 ∷ 9 ∷ 48 ∷ 10
    ∷ 119 ∷ 111 ∷ 114 ∷ 100 ∷ 9 ∷ 48 ∷ 9 ∷ 48 ∷ 9 ∷ 49 ∷ 9 ∷ 48 ∷ 10 ∷ 119 ∷ 111 ∷ 114 ∷ 100 ∷ 9 ∷ 48 ∷ 9 ∷ 49 ∷ 9 ∷ 49 ∷ 9 ∷ 48 ∷ 10
    ∷ 114 ∷ 101 ∷ 102 ∷ 117 ∷ 115 ∷ 101 ∷ 100 ∷ 9 ∷ 54 ∷ 9 ∷ 48 ∷ 10
    ∷ 116 ∷ 97 ∷ 108 ∷ 108 ∷ 121 ∷ 9 ∷ 52 ∷ 9 ∷ 49 ∷ 9 ∷ 49 ∷ 9 ∷ 49 ∷ 9 ∷ 50 ∷ 9 ∷ 49 ∷ 9 ∷ 49 ∷ 9 ∷ 45 ∷ 51 ∷ 9 ∷ 52 ∷ 10
    ∷ 101 ∷ 110 ∷ 100 ∷ 9 ∷ 54 ∷ 10 ∷ []

pub heard-sheet-worked : Lists heard_text heard_listing
unfolding plate_line profile_line word_line refused_line tally_line line_of_end less decimal signed_decimal heard-answers
heard-sheet-worked = record {
  lines = _;
  reports = answers-listed heard_text (record { verdict = Ok tt; plate = zero_plate1 }) replies heard-answers;
  bytes = refl;
}
