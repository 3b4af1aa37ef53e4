-- The table of examples is right: each entry's test is computed, and shows that its reply and no other meets the promise.
use lib.Count.{count_leading_zeros, ones, ones_in, count_trailing_zeros}
use mathlib.Core.Bool.{true}
use mathlib.Core.List.{List, [], ◌∷◌}
use mathlib.Core.Path.{subst, sym, ◌≡◌}
use Rattle.coding.proofs.CodingDetermined.{encode-determined, read-back-determined}
use Rattle.coding.specs.Coding.{Encodes, ReadsBack}
use Rattle.demands.proofs.BlocksChecked.{decoded}
use Rattle.demands.proofs.Checking.{Check, both, by}
use Rattle.demands.proofs.LinesChecked.{line_is, plate_line_is}
use Rattle.demands.proofs.PlatesChecked.{accepted}
use Rattle.demands.proofs.QuestionsChecked.{explained, judged}
use Rattle.demands.proofs.RefusalsChecked.{refused}
use Rattle.demands.proofs.SheetsChecked.{sheet_listed, sheet_read}
use Rattle.demands.proofs.WordsChecked.{answered, encoded, read_back}
use Rattle.demands.specs.Examples.{AllRight, Exactly, Example, Right, examples}
use Rattle.demands.specs.Examples.{accepts, asks, decodes, encodes, end_line, explains, judges, lists, plate-line}
use Rattle.demands.specs.Examples.{profile-line, reads, reads-sheet, refuses, word-line}
use Rattle.listings.specs.Decimal.{decimal, signed_decimal}
use Rattle.listings.specs.Lines.{line_of_end, plate_line, profile_line, word_line}
use Rattle.listings.specs.Writing.{entries_of}
use Rattle.plates.proofs.PrepareDetermined.{prepare-determined}
use Rattle.plates.specs.Prepare.{Prepares}
use Rattle.sheets.specs.Covers.{cover_fields as covers}
use Rattle.sheets.specs.Sheet.{contents, verdict}
use Rattle.trellises.proofs.BranchDetermined.{branch-determined}
use Rattle.trellises.specs.Branching.{Branches}
use Rattle.trellises.specs.SectionOf.{with_active, with_row}
use Rattle.words.specs.Ends.{first, last}

-- what meets a promise that determines its reply
pub exactly : {A : Type 0} (Promise : A → Type 0) (reply : A) → ((r s : A) → Promise r → Promise s → r ≡ s) → Promise reply → Exactly Promise reply
exactly Promise reply determined holds r = ((λ x. determined r reply x holds), λ e. subst Promise (sym e) holds)

-- the test of an entry
abbrev pub entry : (e : Example) → Check (Right e)
entry (accepts n kind rows mask plate) = by (exactly (Prepares n kind rows mask) _ (prepare-determined n kind rows mask)) (accepted n kind rows mask plate)
entry (refuses n kind rows mask q) = by (exactly (Prepares n kind rows mask) _ (prepare-determined n kind rows mask)) (refused n kind rows mask q)
entry (asks plate depth state bit r) =
    by (exactly (Branches plate depth state bit) r (branch-determined plate depth state bit)) (answered plate depth state bit r)
entry (encodes plate information r) = by (exactly (Encodes plate information) r (encode-determined plate information)) (encoded plate information r)
entry (reads plate word r) = by (exactly (ReadsBack plate word) r (read-back-determined plate word)) (read_back plate word r)
entry (decodes plate samples a) = decoded plate samples a
entry (judges plate samples position flag) = judged plate samples position flag
entry (explains plate samples w reason) = explained plate samples w reason
entry (plate-line plate line) = plate_line_is plate (plate_line plate.n plate.k (entries_of plate)) line
entry (profile-line plate line) = plate_line_is plate (profile_line (entries_of plate)) line
entry (word-line plate a line) =
    plate_line_is plate (word_line plate.n a.word a.metric a.counts.additions a.counts.comparisons) line
entry (end_line blocks line) = line_is (line_of_end blocks) line
entry (reads-sheet input s rows) = sheet_read input s rows
entry (lists input plate answers listing) = sheet_listed input plate answers listing

-- the tests of all
abbrev pub entries : (es : List Example) → Check (AllRight es)
entries [] = record { test = true; law = λ t. tt }
entries (e ∷ es) = both (entry e) (entries es)

-- every example that the paper marks P, and those of the masked sheet
pub examples-right : AllRight examples
unfolding first last count_trailing_zeros count_leading_zeros with_row with_active plate_line profile_line word_line line_of_end decimal signed_decimal ones ones_in verdict contents covers
examples-right = (entries examples).law tt
