-- Tests of a sheet: what it says, and its whole listing.
use Rattle.std.proofs.Common.{Result, Ok}
use Rattle.plates.specs.declared.Refusal.{Refusal}
use lib.IntN.{ℤ}
use mathlib.Core.Bool.{Bool, false, true}
use mathlib.Core.List.{List, [], map, ◌∷◌}
use mathlib.Core.Path.{ap, ap₂, refl, subst, sym, ◌∙◌, ◌≡◌}
use native.Mathlib.Omega.{arith}
use Prim.Native.Nat.{ℕ}
use Rattle.decoding.specs.declared.Answer.{Answer}
use Rattle.demands.proofs.BlocksChecked.{Ready, TestedAnswer, ready, tested, tested-best}
use Rattle.demands.proofs.Checking.{Check, both, by, equal, list}
use Rattle.demands.proofs.PlatesChecked.{accepted}
use Rattle.demands.specs.Examples.{Exactly, accepted_with}
use Rattle.plates.specs.declared.Kind.{Kind}
use Rattle.plates.specs.declared.Kind.TheVariants.{G, H}
use Rattle.plates.specs.declared.Plate.{Plate}
use Rattle.plates.specs.Prepare.{Prepares}
use Rattle.reports.proofs.ReportDetermined.{listing-determined}
use Rattle.reports.proofs.SameAnswers.{answers-listed}
use Rattle.reports.specs.Answers.{Answers, listing_lines}
use Rattle.reports.specs.Report.{BlockAnswer, BlockAnswers, Lists, joined}
use Rattle.sheets.specs.declared.Order.{Order}
use Rattle.sheets.specs.declared.Order.TheVariants.{First, Last}
use Rattle.sheets.specs.declared.Sheet.{Sheet}
use Rattle.sheets.specs.Room.{laid}
use Rattle.sheets.specs.Sheet.{Contents, Reading, ReadsSheet, reading, refused, says, sheet_at, sheet_reply, start_of, table_after}

-- a test that never passes
abbrev pub never : {P : Type 0} → Check P
never = record { test = false; law = λ t. absurd t }

-- ---- what a sheet says

-- the same kind
abbrev pub same_kind : (a b : Kind) → Check (a ≡ b)
same_kind G G = record { test = true; law = λ t. refl }
same_kind G H = never
same_kind H G = never
same_kind H H = record { test = true; law = λ t. refl }

-- the same order
abbrev pub same_order : (a b : Order) → Check (a ≡ b)
same_order First First = record { test = true; law = λ t. refl }
same_order First Last = never
same_order Last First = never
same_order Last Last = record { test = true; law = λ t. refl }

-- the same of two tests
abbrev pub same_test : (a b : Bool) → Check (a ≡ b)
same_test false false = record { test = true; law = λ t. refl }
same_test false true = never
same_test true false = never
same_test true true = record { test = true; law = λ t. refl }

-- the same sheet, by its parts
abbrev pub same_sheet : (a b : Sheet) → Check (a ≡ b)
same_sheet a b =
    by (λ p i. record {
      n = p.0.0 i;
      kind = p.0.1.0 i;
      order = p.0.1.1.0 i;
      mask = p.0.1.1.1 i;
      rows = p.1.0 i;
      start = p.1.1.0 i;
      heard = p.1.1.1.0 i;
      blocks = p.1.1.1.1 i;
    })
    (both
    (both (equal a.n b.n) (both (same_kind a.kind b.kind) (both (same_order a.order b.order) (equal a.mask b.mask))))
    (both (equal a.rows b.rows)
    (both (equal a.start b.start) (both (same_test a.heard b.heard) (equal a.blocks b.blocks)))))

module _ (input : List ℕ) (s : Sheet) (rows : List ℕ) where
  -- a reading that says so
  abbrev pub SaysSo : Reading → Type 0
  SaysSo r = (sheet_reply input r ≡ Ok s) × ((table : List ℕ) → table_after table r ≡ laid rows table)

  -- its test
  abbrev pub says_so : (r : Reading) → Check (SaysSo r)
  says_so (refused q) = never
  says_so (says c) =
      by (λ p. (ap Ok p.0, λ table. ap (λ (x : List ℕ). laid x table) p.1)) (both (same_sheet (sheet_at (start_of input c) c) s) (list c.rows rows))

  -- a sheet is read so, and not otherwise
  pub read-so : SaysSo (reading input)
      → (table : List ℕ) → Exactly (λ (x : Result Sheet Refusal × List ℕ). ReadsSheet input table x.0 x.1) (Ok s, laid rows table)
  read-so p table r = (
    (λ x. ap₂ (λ (y : Result Sheet Refusal) (z : List ℕ). (y, z)) (x.reply ∙ p.0) (x.rows ∙ p.1 table)),
    λ e.
        subst (λ (x : Result Sheet Refusal × List ℕ). ReadsSheet input table x.0 x.1) (sym e) (record { reply = sym p.0; rows = sym (p.1 table) }),
  )

  abbrev pub sheet_read : Check ((table : List ℕ) → Exactly (λ (x : Result Sheet Refusal × List ℕ). ReadsSheet input table x.0 x.1) (Ok s, laid rows table))
  sheet_read = by read-so (says_so (reading input))

-- ---- its listing

module _ (plate : Plate) where
  -- the answer for a block
  pub block-answered : (samples : List ℤ) (a : Answer) → Ready plate samples → TestedAnswer plate samples a → BlockAnswer plate samples (Ok a)
  block-answered samples a r p = (
    ((λ q c. c.0 r.count), ((λ q c. omega (arith, c.over, r.within c.position c.there)), tt)),
    tested-best plate samples a r p,
  )

  -- those for some blocks
  abbrev pub blocks_answered : (blocks : List (List ℤ)) (answers : List Answer) → Check (BlockAnswers plate blocks (map Ok answers))
  blocks_answered [] [] = record { test = true; law = λ t. tt }
  blocks_answered [] (a ∷ answers) = never
  blocks_answered (samples ∷ blocks) [] = never
  blocks_answered (samples ∷ blocks) (a ∷ answers) =
      both (by (λ p. block-answered samples a p.0 p.1) (both (ready plate samples) (tested plate samples a))) (blocks_answered blocks answers)

module _ (input : List ℕ) (plate : Plate) (answers : List Answer) (listing : List ℕ) where
  -- what is tested of a reading
  pub record TestedListing (r : Reading) : Type 0 where
    pub sheet : Contents
    pub reads : r ≡ says sheet
    pub prepares : Prepares sheet.n sheet.kind sheet.rows sheet.mask (accepted_with plate)
    pub blocks : BlockAnswers plate sheet.blocks (map Ok answers)
    pub lines : listing ≡ joined (listing_lines sheet.order plate sheet (map Ok answers))

  -- all of it, computed
  abbrev pub tested_listing : (r : Reading) → Check (TestedListing r)
  tested_listing (refused q) = never
  tested_listing (says c) =
      by (λ p. record { sheet = c; reads = refl; prepares = p.0; blocks = p.1.0; lines = p.1.1 })
      (both (accepted c.n c.kind c.rows c.mask plate)
      (both (blocks_answered plate c.blocks answers) (list listing (joined (listing_lines c.order plate c (map Ok answers))))))

  -- these are the answers
  pub answers-tested : TestedListing (reading input) → Answers input (accepted_with plate) (map Ok answers)
  answers-tested p = record { sheet = p.sheet; reads = p.reads; prepares = p.prepares; accepted = refl; blocks = p.blocks }

  -- and this is the listing
  pub listing-tested : TestedListing (reading input) → Lists input listing
  unfolding answers-tested
  listing-tested p = record { lines = _; reports = answers-listed input (accepted_with plate) (map Ok answers) (answers-tested p); bytes = p.lines }

  -- and nothing else
  pub listed-so : TestedListing (reading input) → Answers input (accepted_with plate) (map Ok answers) × Exactly (Lists input) listing
  listed-so p = (
    answers-tested p,
    λ r. (
      (λ x. listing-determined input r listing x (listing-tested p)),
      λ e. subst (Lists input) (sym e) (listing-tested p),
    ),
  )

  abbrev pub sheet_listed : Check (Answers input (accepted_with plate) (map Ok answers) × Exactly (Lists input) listing)
  sheet_listed = by listed-so (tested_listing (reading input))
