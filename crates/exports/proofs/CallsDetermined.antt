-- Determined: two replies of a call of the interface, with all lent cells, that meet its promise are equal.
use Rattle.std.proofs.Common.{Result}
use Rattle.plates.specs.declared.Refusal.{Refusal}
use Rattle.decoding.specs.declared.apart.Selection.{Selection}
use Rattle.decoding.specs.declared.Counts.{Counts}
use Rattle.decoding.specs.declared.Answer.{Answer}
use Rattle.decoding.specs.declared.apart.Measure.{Measure}
use Rattle.asking.specs.declared.Reason.{Reason}
use Rattle.decoding.specs.declared.firmness.Flag.{Flag}
use lib.IntN.{ℤ}
use mathlib.Core.List.{List}
use mathlib.Core.Logic.{inl, inr, ◌⊎◌}
use mathlib.Core.Path.{ap, ap₂, sym, ◌∙◌, ◌≡◌}
use Prim.Native.Nat.{ℕ}
use Rattle.asking.proofs.WhyNotDetermined.{why-not-determined}
use Rattle.coding.proofs.CodingDetermined.{encode-determined, read-back-determined}
use Rattle.decoding.proofs.ApartDetermined.{metric-determined, word-determined}
use Rattle.decoding.proofs.BatchDetermined.{blocks-determined}
use Rattle.decoding.proofs.DecodeDetermined.{decode-determined}
use Rattle.decoding.proofs.FirmnessDetermined.{firmness-determined}
use Rattle.exports.specs.Batches.{BatchCells, BatchesTo, Batching, CallsDecodeBlocks}
use Rattle.exports.specs.Calls.{Calls, Crossing, Replies, misshapen}
use Rattle.exports.specs.Crossing.{DecodeCells, Decoding, Listing, ListingCells, Writing, listing_cells}
use Rattle.exports.specs.Explaining.{AsksTo, CallsWhyNot, Explaining, ReasonCells}
use Rattle.exports.specs.Flat.{plate_of}
use Rattle.exports.specs.Judging.{CallsFirmness, FirmnessCells, Judging, JudgesTo}
use Rattle.exports.specs.Parting.{CallsMetric, CallsWord, Choosing, ChoosesTo, Measuring, MeasuresTo, MetricCells, WordCells}
use Rattle.exports.specs.Promises.{CallsBranch, CallsDecode, CallsEncode, CallsListing, CallsPrepare, CallsReadBack, CallsWrite, CallsWriteEnd, CallsWritePlate, CallsWriteProfile, CallsWriteRefused, CallsWriteWord, DecodesTo, kind_of}
use Rattle.exports.specs.Sheeting.{CallsPlateOfSheet, SheetCells}
use Rattle.exports.specs.Summaries.{CallsWriteLeast, CallsWriteNoLeast, CallsWriteTally, CallsWriteWeight}
use Rattle.listings.proofs.Determined.{write-end-determined, write-least-determined, write-no-least-determined, write-plate-determined, write-profile-determined, write-refused-determined, write-tally-determined, write-weight-determined, write-word-determined}
use Rattle.listings.specs.declared.Tally.{Tally}
use Rattle.listings.specs.Writing.{WritesEnd, WritesLeast, WritesNoLeast, WritesPlate, WritesProfile, WritesRefused, WritesTally, WritesWeight, WritesWord}
use Rattle.plates.proofs.PrepareDetermined.{prepare-determined}
use Rattle.reports.proofs.ListingDetermined.{write-listing-determined}
use Rattle.reports.proofs.StepDetermined.{open-determined}
use Rattle.reports.specs.Listing.{WritesListing}
use Rattle.reports.specs.Remaining.{Rooms}
use Rattle.trellises.proofs.BranchDetermined.{branch-determined}

-- the one law: where the call below is determined, so is the call
pub calls-determined : {Reply Lent : Type 0} {shape : Type 0} {before : Lent} {promise : Reply → Type 0} {crossing : Reply → Crossing Lent} {a b : Crossing Lent}
    → ((x y : Reply) → promise x → promise y → x ≡ y)
    → Calls shape before promise crossing a → Calls shape before promise crossing b → a ≡ b
calls-determined {shape = shape} {before = before} {promise = promise} {crossing = crossing} {a = a} {b = b} one f g = go f.by_shape g.by_shape
  where
    go : ((shape → ⊥) × (a ≡ record { code = misshapen; cells = before })) ⊎ (shape × Replies promise crossing a)
        → ((shape → ⊥) × (b ≡ record { code = misshapen; cells = before })) ⊎ (shape × Replies promise crossing b) → a ≡ b
    go (inl p) (inl q) = p.1 ∙ sym q.1
    go (inl p) (inr q) = absurd (p.0 q.0)
    go (inr p) (inl q) = absurd (q.0 p.0)
    go (inr p) (inr q) = p.1.crosses ∙ ap crossing (one p.1.reply q.1.reply p.1.promised q.1.promised) ∙ sym q.1.crosses

-- the same code and the same cell
abbrev pub SameCell : ℕ → ℕ → List ℕ → List ℕ → Type 0
SameCell r s a b = ◌≡◌ {A = Crossing (List ℕ)} (record { code = r; cells = a }) (record { code = s; cells = b })

-- the same code and the same two runs
abbrev pub SameRuns : ℕ → ℕ → List ℕ → List ℕ → List ℕ → List ℕ → Type 0
SameRuns r s a b c d = ◌≡◌ {A = Crossing (List ℕ × List ℕ)} (record { code = r; cells = (a, b) }) (record { code = s; cells = (c, d) })

pub prepare-call-determined : (n kind : ℕ) (rows : List ℕ) (mask : ℕ) (run at : List ℕ) (r s : ℕ) (a b c d : List ℕ)
    → CallsPrepare n kind rows mask run at r a b → CallsPrepare n kind rows mask run at s c d → SameRuns r s a b c d
prepare-call-determined n kind rows mask run at r s a b c d = calls-determined (prepare-determined n (kind_of kind) rows mask)

module _ (words cell : List ℕ) (r s : ℕ) (a b : List ℕ) where
  pub branch-call-determined : (depth state digit : ℕ) → CallsBranch words depth state digit cell r a → CallsBranch words depth state digit cell s b
      → SameCell r s a b
  branch-call-determined depth state digit = calls-determined (branch-determined (plate_of words) depth state digit)

  pub encode-call-determined : (information : ℕ) → CallsEncode words information cell r a → CallsEncode words information cell s b
      → SameCell r s a b
  encode-call-determined information = calls-determined (encode-determined (plate_of words) information)

  pub read-back-call-determined : (word : ℕ) → CallsReadBack words word cell r a → CallsReadBack words word cell s b
      → SameCell r s a b
  read-back-call-determined word = calls-determined (read-back-determined (plate_of words) word)

pub decode-call-determined : (words : List ℕ) (samples : List ℤ) (lent a b : DecodeCells) (r s : ℕ) → CallsDecode words samples lent r a → CallsDecode words samples lent s b
    → ◌≡◌ {A = Crossing DecodeCells} (record { code = r; cells = a }) (record { code = s; cells = b })
decode-call-determined words samples lent a b r s = calls-determined one
  where
    one : (x y : Decoding) → DecodesTo (plate_of words) samples lent x → DecodesTo (plate_of words) samples lent y → x ≡ y
    one x y p q =
        let same = decode-determined (plate_of words) samples lent.metrics lent.decisions x.reply y.reply x.metrics y.metrics x.decisions y.decisions p q in
        ap₂ (λ (u : Result Answer Refusal) (m : List ℤ). record { reply = u; metrics = m; decisions = x.decisions }) same.0 same.1
        ∙ ap (λ (d : List ℕ). record { reply = y.reply; metrics = y.metrics; decisions = d }) same.2

pub metric-call-determined : (words : List ℕ) (samples : List ℤ) (lent a b : MetricCells) (r s : ℕ) → CallsMetric words samples lent r a → CallsMetric words samples lent s b
    → ◌≡◌ {A = Crossing MetricCells} (record { code = r; cells = a }) (record { code = s; cells = b })
metric-call-determined words samples lent a b r s = calls-determined one
  where
    one : (x y : Measuring) → MeasuresTo (plate_of words) samples lent x → MeasuresTo (plate_of words) samples lent y → x ≡ y
    one x y p q =
        let same = metric-determined (plate_of words) samples lent.metrics x.reply y.reply x.metrics y.metrics p q in
        ap₂ (λ (u : Result Measure Refusal) (m : List ℤ). record { reply = u; metrics = m }) same.0 same.1

pub word-call-determined : (words : List ℕ) (samples : List ℤ) (lent a b : WordCells) (r s : ℕ) → CallsWord words samples lent r a → CallsWord words samples lent s b
    → ◌≡◌ {A = Crossing WordCells} (record { code = r; cells = a }) (record { code = s; cells = b })
word-call-determined words samples lent a b r s = calls-determined one
  where
    one : (x y : Choosing) → ChoosesTo (plate_of words) samples lent x → ChoosesTo (plate_of words) samples lent y → x ≡ y
    one x y p q =
        let same = word-determined (plate_of words) samples lent.metrics lent.decisions x.reply y.reply x.metrics y.metrics x.decisions y.decisions p q in
        ap₂ (λ (u : Result Selection Refusal) (m : List ℤ). record { reply = u; metrics = m; decisions = x.decisions }) same.0 same.1
        ∙ ap (λ (d : List ℕ). record { reply = y.reply; metrics = y.metrics; decisions = d }) same.2

pub decode-blocks-call-determined : (words : List ℕ) (samples : List ℤ) (lent a b : BatchCells) (r s : ℕ) → CallsDecodeBlocks words samples lent r a
    → CallsDecodeBlocks words samples lent s b → ◌≡◌ {A = Crossing BatchCells} (record { code = r; cells = a }) (record { code = s; cells = b })
decode-blocks-call-determined words samples lent a b r s = calls-determined one
  where
    one : (x y : Batching) → BatchesTo (plate_of words) samples lent x → BatchesTo (plate_of words) samples lent y → x ≡ y
    one x y p q =
        let same =
        blocks-determined (plate_of words) samples lent.words lent.scores lent.metrics lent.decisions x.reply y.reply x.words y.words
        x.scores y.scores x.metrics y.metrics x.decisions y.decisions p q in
        ap₂ (λ (u : Result Counts Refusal) (w : List ℕ). record { reply = u; words = w; scores = x.scores; metrics = x.metrics; decisions = x.decisions }) same.0 same.1
        ∙ ap₂ (λ (v m : List ℤ). record { reply = y.reply; words = y.words; scores = v; metrics = m; decisions = x.decisions }) same.2 same.3
        ∙ ap (λ (d : List ℕ). record { reply = y.reply; words = y.words; scores = y.scores; metrics = y.metrics; decisions = d }) same.4

pub firmness-call-determined : (words : List ℕ) (samples : List ℤ) (position : ℕ) (lent a b : FirmnessCells) (r s : ℕ) → CallsFirmness words samples position lent r a
    → CallsFirmness words samples position lent s b → ◌≡◌ {A = Crossing FirmnessCells} (record { code = r; cells = a }) (record { code = s; cells = b })
firmness-call-determined words samples position lent a b r s = calls-determined one
  where
    one : (x y : Judging) → JudgesTo (plate_of words) samples position lent x → JudgesTo (plate_of words) samples position lent y → x ≡ y
    one x y p q =
        let same = firmness-determined (plate_of words) samples position lent.metrics lent.decisions x.reply y.reply x.metrics y.metrics x.decisions y.decisions p q in
        ap₂ (λ (u : Result Flag Refusal) (m : List ℤ). record { reply = u; metrics = m; decisions = x.decisions }) same.0 same.1
        ∙ ap (λ (d : List ℕ). record { reply = y.reply; metrics = y.metrics; decisions = d }) same.2

module _ (room cell : List ℕ) (r s : ℕ) (a b c d : List ℕ) where
  -- a line: the reply and the room after it are determined by the call below
  write-call-determined : (shape : Type 0) (writes : List ℕ → Result ℕ Refusal → List ℕ → Type 0)
      → ((x y : Result ℕ Refusal) (e f : List ℕ) → writes room x e → writes room y f → (x ≡ y) × (e ≡ f))
      → CallsWrite shape writes room cell r a b → CallsWrite shape writes room cell s c d
      → SameRuns r s a b c d
  write-call-determined shape writes one =
      calls-determined
      (λ (x y : Writing) p q. ap₂ (λ (u : Result ℕ Refusal) (l : List ℕ). record { reply = u; room = l }) (one x.reply y.reply x.room y.room p q).0 (one x.reply y.reply x.room y.room p q).1)

  pub write-plate-call-determined : (words : List ℕ) → CallsWritePlate words room cell r a b → CallsWritePlate words room cell s c d
      → SameRuns r s a b c d
  write-plate-call-determined words = write-call-determined _ (WritesPlate (plate_of words)) (λ x y e f. write-plate-determined (plate_of words))

  pub write-profile-call-determined : (words : List ℕ) → CallsWriteProfile words room cell r a b → CallsWriteProfile words room cell s c d
      → SameRuns r s a b c d
  write-profile-call-determined words = write-call-determined _ (WritesProfile (plate_of words)) (λ x y e f. write-profile-determined (plate_of words))

  pub write-word-call-determined : (words : List ℕ) (word : ℕ) (metric : ℤ) (additions comparisons : ℕ)
      → CallsWriteWord words word metric additions comparisons room cell r a b → CallsWriteWord words word metric additions comparisons room cell s c d
      → SameRuns r s a b c d
  write-word-call-determined words word metric additions comparisons =
      write-call-determined _ (WritesWord (plate_of words) word metric additions comparisons) (λ x y e f. write-word-determined (plate_of words) word metric additions comparisons)

  pub write-refused-call-determined : (q p f : ℕ) → CallsWriteRefused q p f room cell r a b → CallsWriteRefused q p f room cell s c d
      → SameRuns r s a b c d
  write-refused-call-determined q p f = write-call-determined _ (WritesRefused q p f) (λ x y e g. write-refused-determined q p f)

  pub write-end-call-determined : (blocks : ℕ) → CallsWriteEnd blocks room cell r a b → CallsWriteEnd blocks room cell s c d
      → SameRuns r s a b c d
  write-end-call-determined blocks = write-call-determined _ (WritesEnd blocks) (λ x y e f. write-end-determined blocks)

  pub write-weight-call-determined : (weight count : ℕ) → CallsWriteWeight weight count room cell r a b → CallsWriteWeight weight count room cell s c d
      → SameRuns r s a b c d
  write-weight-call-determined weight count = write-call-determined _ (WritesWeight weight count) (λ x y e f. write-weight-determined weight count)

  pub write-least-call-determined : (weight : ℕ) → CallsWriteLeast weight room cell r a b → CallsWriteLeast weight room cell s c d
      → SameRuns r s a b c d
  write-least-call-determined weight = write-call-determined _ (WritesLeast weight) (λ x y e f. write-least-determined weight)

  pub write-no-least-call-determined : CallsWriteNoLeast room cell r a b → CallsWriteNoLeast room cell s c d → SameRuns r s a b c d
  write-no-least-call-determined = write-call-determined _ WritesNoLeast (λ x y e f. write-no-least-determined)

  pub write-tally-call-determined : (tally : Tally) → CallsWriteTally tally room cell r a b → CallsWriteTally tally room cell s c d
      → SameRuns r s a b c d
  write-tally-call-determined tally = write-call-determined _ (WritesTally tally) (λ x y e f. write-tally-determined tally)

pub why-not-call-determined : (words : List ℕ) (samples : List ℤ) (word : ℕ) (lent a b : ReasonCells) (r s : ℕ) → CallsWhyNot words samples word lent r a
    → CallsWhyNot words samples word lent s b → ◌≡◌ {A = Crossing ReasonCells} (record { code = r; cells = a }) (record { code = s; cells = b })
why-not-call-determined words samples word lent a b r s = calls-determined one
  where
    one : (x y : Explaining) → AsksTo (plate_of words) samples word lent x → AsksTo (plate_of words) samples word lent y → x ≡ y
    one x y p q =
        let same = why-not-determined (plate_of words) samples word lent.metrics lent.decisions x.reply y.reply x.metrics y.metrics x.decisions y.decisions p q in
        ap₂ (λ (u : Result Reason Refusal) (m : List ℤ). record { reply = u; metrics = m; decisions = x.decisions }) same.0 same.1
        ∙ ap (λ (d : List ℕ). record { reply = y.reply; metrics = y.metrics; decisions = d }) same.2

pub listing-call-determined : (sheet : List ℕ) (working : Rooms) (listing cell : List ℕ) (r s : ℕ) (a b : Rooms) (c d e f : List ℕ)
    → CallsListing sheet working listing cell r a c e → CallsListing sheet working listing cell s b d f
    → ◌≡◌ {A = Crossing ListingCells} (record { code = r; cells = listing_cells a c e }) (record { code = s; cells = listing_cells b d f })
listing-call-determined sheet working listing cell r s a b c d e f = calls-determined one
  where
    one : (x y : Listing) → WritesListing sheet working listing x.working x.listing x.reply → WritesListing sheet working listing y.working y.listing y.reply → x ≡ y
    one x y p q =
        let same = write-listing-determined sheet working listing x.reply y.reply x.working y.working x.listing y.listing p q in
        ap₂ (λ (u : Result ℕ Refusal) (w : Rooms). record { reply = u; working = w; listing = x.listing }) same.0 same.1
        ∙ ap (λ (l : List ℕ). record { reply = y.reply; working = y.working; listing = l }) same.2

pub plate-of-sheet-call-determined : (sheet : List ℕ) (lent a b : SheetCells) (r s : ℕ) → CallsPlateOfSheet sheet lent r a → CallsPlateOfSheet sheet lent s b
    → ◌≡◌ {A = Crossing SheetCells} (record { code = r; cells = a }) (record { code = s; cells = b })
plate-of-sheet-call-determined sheet lent a b r s = calls-determined (open-determined sheet)
