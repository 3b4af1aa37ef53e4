-- Determined: for each public function, two replies that meet its promise, with what each leaves in the rooms lent, are equal.
use Rattle.std.proofs.Common.{Result, Option}
use Rattle.decoding.specs.declared.apart.Selection.{Selection}
use Rattle.decoding.specs.declared.Answer.{Answer}
use Rattle.decoding.specs.declared.apart.Measure.{Measure}
use Rattle.asking.specs.declared.Reason.{Reason}
use Rattle.decoding.specs.declared.firmness.Flag.{Flag}
use lib.IntN.{ℤ}
use mathlib.Core.Bool.{Bool}
use mathlib.Core.List.{List}
use mathlib.Core.Path.{sym, ◌∙◌, ◌≡◌}
use Prim.Native.Nat.{ℕ}
use Rattle.asking.proofs.WhyNotDetermined.{why-not-determined}
use Rattle.asking.specs.Asking.{Asks}
use Rattle.coding.proofs.CodingDetermined.{encode-determined, read-back-determined}
use Rattle.coding.specs.Coding.{Encodes, ReadsBack}
use Rattle.decoding.proofs.ApartDetermined.{metric-determined, word-determined}
use Rattle.decoding.proofs.DecodeDetermined.{decode-determined}
use Rattle.decoding.proofs.FirmnessDetermined.{firmness-determined}
use Rattle.decoding.proofs.RestOfWords.{rest-determined}
use Rattle.decoding.specs.Apart.{Chooses, Measures}
use Rattle.decoding.specs.Cosets.{taken_off}
use Rattle.decoding.specs.Decode.{Decodes}
use Rattle.decoding.specs.Firmness.{TellsFirmness}
use Rattle.listings.proofs.Determined.{write-end-determined, write-plate-determined, write-profile-determined, write-refused-determined, write-word-determined}
use Rattle.listings.proofs.Determined.{write-least-determined, write-no-least-determined, write-tally-determined, write-weight-determined}
use Rattle.listings.specs.declared.Tally.{Tally}
use Rattle.listings.specs.Writing.{WritesEnd, WritesLeast, WritesNoLeast, WritesPlate, WritesProfile, WritesRefused, WritesTally, WritesWeight, WritesWord}
use Rattle.plates.proofs.PrepareDetermined.{is-prepared-determined, prepare-determined}
use Rattle.plates.specs.declared.Kind.{Kind}
use Rattle.plates.specs.declared.Plate.{Plate}
use Rattle.plates.specs.declared.Prepared.{Prepared}
use Rattle.plates.specs.declared.Refusal.{Refusal}
use Rattle.plates.specs.Prepare.{Prepares, Tests}
use Rattle.plates.specs.Refusals.{field, number, place}
use Rattle.trellises.proofs.BranchDetermined.{branch-determined}
use Rattle.trellises.specs.Branching.{Branches}
use Rattle.trellises.specs.declared.Section.{Section}
use Rattle.trellises.specs.SectionOf.{held, section_of}
use Rattle.words.proofs.Ends.{first-one-determined, last-one-determined}
use Rattle.words.specs.Ends.{FirstOne, LastOne}
use Rattle.words.specs.Parity.{parity}
use Rattle.words.specs.Word.{bit}

-- ---- words

-- a position of a word
pub bit_at : (word position r s : ℕ) → r ≡ bit word position → s ≡ bit word position → r ≡ s
bit_at word position r s x y = x ∙ sym y

-- its first one
pub first_one : (word r s : ℕ) → FirstOne word r → FirstOne word s → r ≡ s
first_one = first-one-determined

-- its last one
pub last_one : (word r s : ℕ) → LastOne word r → LastOne word s → r ≡ s
last_one = last-one-determined

-- its parity with another
pub parity-with : (word other r s : ℕ) → r ≡ parity word other → s ≡ parity word other → r ≡ s
parity-with word other r s x y = x ∙ sym y

-- ---- plates

-- the number of a refusal
pub refusal-number : (refusal : Refusal) (r s : ℕ) → r ≡ number refusal → s ≡ number refusal → r ≡ s
refusal-number refusal r s x y = x ∙ sym y

-- its place
pub refusal-place : (refusal : Refusal) (r s : ℕ) → r ≡ place refusal → s ≡ place refusal → r ≡ s
refusal-place refusal r s x y = x ∙ sym y

-- its field
pub refusal-field : (refusal : Refusal) (r s : ℕ) → r ≡ field refusal → s ≡ field refusal → r ≡ s
refusal-field refusal r s x y = x ∙ sym y

-- preparing a matrix and a mask
pub prepare : (n : ℕ) (kind : Kind) (rows : List ℕ) (mask : ℕ) (r s : Prepared) → Prepares n kind rows mask r → Prepares n kind rows mask s → r ≡ s
prepare = prepare-determined

-- the test of a plate
pub is-prepared : (plate : Plate) (r s : Bool) → Tests plate r → Tests plate s → r ≡ s
is-prepared = is-prepared-determined

-- ---- trellises

-- a branch asked for
pub branch : (plate : Plate) (depth state bit : ℕ) (r s : Result (Option ℕ) Refusal) → Branches plate depth state bit r → Branches plate depth state bit s → r ≡ s
branch = branch-determined

-- a section of rows
pub section-of : (rows : List ℕ) (t : ℕ) (r s : Section) → r ≡ held (section_of rows t) → s ≡ held (section_of rows t) → r ≡ s
section-of rows t r s x y = x ∙ sym y

-- ---- coding

-- encoding information
pub encode : (plate : Plate) (information : ℕ) (r s : Result ℕ Refusal) → Encodes plate information r → Encodes plate information s → r ≡ s
encode = encode-determined

-- reading a word back
pub read_back : (plate : Plate) (word : ℕ) (r s : Result ℕ Refusal) → ReadsBack plate word r → ReadsBack plate word s → r ≡ s
read_back = read-back-determined

-- ---- decoding

-- decoding, with both rooms
pub decode : (plate : Plate) (samples metrics : List ℤ) (decisions : List ℕ) (r s : Result Answer Refusal) (m n : List ℤ) (d e : List ℕ)
    → Decodes plate samples metrics decisions m d r → Decodes plate samples metrics decisions n e s → (r ≡ s) × (m ≡ n) × (d ≡ e)
decode = decode-determined

-- the metric without the word, with its room
pub best-metric : (plate : Plate) (samples metrics : List ℤ) (r s : Result Measure Refusal) (m n : List ℤ)
    → Measures plate samples metrics m r → Measures plate samples metrics n s → (r ≡ s) × (m ≡ n)
best-metric = metric-determined

-- the word without its metric, with both rooms
pub best-word : (plate : Plate) (samples metrics : List ℤ) (decisions : List ℕ) (r s : Result Selection Refusal) (m n : List ℤ) (d e : List ℕ)
    → Chooses plate samples metrics decisions m d r → Chooses plate samples metrics decisions n e s → (r ≡ s) × (m ≡ n) × (d ≡ e)
best-word = word-determined

-- a position judged, with both rooms
pub firmness : (plate : Plate) (samples : List ℤ) (position : ℕ) (metrics : List ℤ) (decisions : List ℕ) (r s : Result Flag Refusal) (m n : List ℤ) (d e : List ℕ)
    → TellsFirmness plate samples position metrics decisions m d r → TellsFirmness plate samples position metrics decisions n e s → (r ≡ s) × (m ≡ n) × (d ≡ e)
firmness = firmness-determined

-- what is left of a word once rows are taken off it
pub rest_of : (rows : List ℕ) (word r s : ℕ) → r ≡ taken_off rows word → s ≡ taken_off rows word → r ≡ s
rest_of = rest-determined

-- why a word was not chosen, with both rooms
pub why-not : (plate : Plate) (samples : List ℤ) (w : ℕ) (metrics : List ℤ) (decisions : List ℕ) (r s : Result Reason Refusal) (m n : List ℤ) (d e : List ℕ)
    → Asks plate samples w metrics decisions m d r → Asks plate samples w metrics decisions n e s → (r ≡ s) × (m ≡ n) × (d ≡ e)
why-not = why-not-determined

-- ---- listings

module _ (room : List ℕ) (r s : Result ℕ Refusal) (a b : List ℕ) where
  -- the line plate
  pub write-plate : (plate : Plate) → WritesPlate plate room r a → WritesPlate plate room s b → (r ≡ s) × (a ≡ b)
  write-plate = write-plate-determined

  -- the line profile
  pub write-profile : (plate : Plate) → WritesProfile plate room r a → WritesProfile plate room s b → (r ≡ s) × (a ≡ b)
  write-profile = write-profile-determined

  -- the line word
  pub write_word : (plate : Plate) (word : ℕ) (metric : ℤ) (additions comparisons : ℕ)
      → WritesWord plate word metric additions comparisons room r a → WritesWord plate word metric additions comparisons room s b → (r ≡ s) × (a ≡ b)
  write_word = write-word-determined

  -- the line refused
  pub write-refused : (number place field : ℕ) → WritesRefused number place field room r a → WritesRefused number place field room s b → (r ≡ s) × (a ≡ b)
  write-refused = write-refused-determined

  -- the line end
  pub write-end : (blocks : ℕ) → WritesEnd blocks room r a → WritesEnd blocks room s b → (r ≡ s) × (a ≡ b)
  write-end = write-end-determined

  -- the line weight
  pub write-weight : (weight count : ℕ) → WritesWeight weight count room r a → WritesWeight weight count room s b → (r ≡ s) × (a ≡ b)
  write-weight = write-weight-determined

  -- the line least
  pub write-least : (weight : ℕ) → WritesLeast weight room r a → WritesLeast weight room s b → (r ≡ s) × (a ≡ b)
  write-least = write-least-determined

  -- the line that says there is none
  pub write-no-least : WritesNoLeast room r a → WritesNoLeast room s b → (r ≡ s) × (a ≡ b)
  write-no-least = write-no-least-determined

  -- the line tally
  pub write-tally : (tally : Tally) → WritesTally tally room r a → WritesTally tally room s b → (r ≡ s) × (a ≡ b)
  write-tally = write-tally-determined
