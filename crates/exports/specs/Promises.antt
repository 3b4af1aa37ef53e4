-- The promises of the calls, but for firmness (Judging), the metric and the word (Parting): the fixed shape, the promise of the call below, and how its reply crosses.
use Rattle.plates.specs.declared.Refusal.{Refusal}
use Rattle.std.specs.Prelude.{ℤ, length, Bool, false, true, List, ◌≡◌, suc, zero, ℕ, ◌≤◌, Result}
use Rattle.coding.specs.Coding.{Encodes, ReadsBack}
use Rattle.decoding.specs.Decode.{Decodes}
use Rattle.exports.specs.Calls.{Calls}
use Rattle.exports.specs.Crossing.{DecodeCells, Decoding, Listing, Writing, branched, decoded, encoded, listed, listing_cells, prepared, read_back, written}
use Rattle.exports.specs.Flat.{plate_of}
use Rattle.listings.specs.Writing.{WritesEnd, WritesPlate, WritesProfile, WritesRefused, WritesWord}
use Rattle.plates.specs.declared.Kind.{Kind}
use Rattle.plates.specs.declared.Kind.TheVariants.{G, H}
use Rattle.plates.specs.declared.Plate.{Plate}
use Rattle.plates.specs.Prepare.{Prepares}
use Rattle.reports.specs.Listing.{WritesListing}
use Rattle.reports.specs.Remaining.{Rooms}
use Rattle.trellises.specs.Branching.{Branches}

-- a run is long enough for a plate
abbrev pub PlateLong : List ℕ → Type 0
PlateLong words = 132 ≤ length words

-- a run has a cell
abbrev pub HasCell : List ℕ → Type 0
HasCell cells = 1 ≤ length cells

-- 0 is G and 1 is H
abbrev pub kind_of : ℕ → Kind
kind_of zero = G
kind_of (suc kind) = H

-- prepare: fixed are the kind, the plate's run and the cell of the place
abbrev pub CallsPrepare : ℕ → ℕ → List ℕ → ℕ → List ℕ → List ℕ → ℕ → List ℕ → List ℕ → Type 0
CallsPrepare n kind rows mask run at r run' at' =
    Calls ((kind ≤ 1) × PlateLong run × HasCell at) (run, at) (Prepares n (kind_of kind) rows mask) (prepared run at) (record { code = r; cells = (run', at') })

-- branch, encode and read back: fixed are the plate's run and a cell for the answer
abbrev pub CallsBranch : List ℕ → ℕ → ℕ → ℕ → List ℕ → ℕ → List ℕ → Type 0
CallsBranch words depth state bit cell r cell' =
    Calls (PlateLong words × HasCell cell) cell (Branches (plate_of words) depth state bit) (branched cell) (record { code = r; cells = cell' })

abbrev pub CallsEncode : List ℕ → ℕ → List ℕ → ℕ → List ℕ → Type 0
CallsEncode words information cell r cell' =
    Calls (PlateLong words × HasCell cell) cell (Encodes (plate_of words) information) (encoded cell) (record { code = r; cells = cell' })

abbrev pub CallsReadBack : List ℕ → ℕ → List ℕ → ℕ → List ℕ → Type 0
CallsReadBack words word cell r cell' =
    Calls (PlateLong words × HasCell cell) cell (ReadsBack (plate_of words) word) (read_back cell) (record { code = r; cells = cell' })

-- what decode promises of its reply and its rooms
abbrev pub DecodesTo : Plate → List ℤ → DecodeCells → Decoding → Type 0
DecodesTo plate samples lent d = Decodes plate samples lent.metrics lent.decisions d.metrics d.decisions d.reply

-- the cells that are lent to decode, one by one
abbrev pub decode_cells : List ℤ → List ℕ → List ℕ → List ℤ → List ℕ → List ℕ → DecodeCells
decode_cells metrics decisions word metric counts at =
    record { metrics = metrics; decisions = decisions; word = word; metric = metric; counts = counts; at = at }

-- how long the plate's run, the cells for the word, the metric and the counts, and that of the place must be
abbrev pub DecodeShape : ℕ → ℕ → ℕ → ℕ → ℕ → Type 0
DecodeShape plate word metric counts at = (132 ≤ plate) × (1 ≤ word) × (1 ≤ metric) × (2 ≤ counts) × (1 ≤ at)

-- what the test of these lengths replies
pub record ShapeTested (plate word metric counts at : ℕ) (r : Bool) : Type 0 where
  pub yes_is : r ≡ true → DecodeShape plate word metric counts at
  pub no_is : r ≡ false → DecodeShape plate word metric counts at → ⊥

-- decode: fixed are the plate's run, the cells for the answer and that of the place
abbrev pub CallsDecode : List ℕ → List ℤ → DecodeCells → ℕ → DecodeCells → Type 0
CallsDecode words samples lent r lent' =
    Calls (DecodeShape (length words) (length lent.word) (length lent.metric) (length lent.counts) (length lent.at)) lent
    (DecodesTo (plate_of words) samples lent) (decoded lent) (record { code = r; cells = lent' })

-- a call that writes a line: fixed is a cell for the length, and the plate's run where there is one
abbrev pub CallsWrite : Type 0 → (List ℕ → Result ℕ Refusal → List ℕ → Type 0) → List ℕ → List ℕ → ℕ → List ℕ → List ℕ → Type 0
CallsWrite shape writes room cell r room' cell' =
    Calls shape (room, cell) (λ (w : Writing). writes room w.reply w.room) (written cell) (record { code = r; cells = (room', cell') })

abbrev pub CallsWritePlate : List ℕ → List ℕ → List ℕ → ℕ → List ℕ → List ℕ → Type 0
CallsWritePlate words room cell = CallsWrite (PlateLong words × HasCell cell) (WritesPlate (plate_of words)) room cell

abbrev pub CallsWriteProfile : List ℕ → List ℕ → List ℕ → ℕ → List ℕ → List ℕ → Type 0
CallsWriteProfile words room cell = CallsWrite (PlateLong words × HasCell cell) (WritesProfile (plate_of words)) room cell

abbrev pub CallsWriteWord : List ℕ → ℕ → ℤ → ℕ → ℕ → List ℕ → List ℕ → ℕ → List ℕ → List ℕ → Type 0
CallsWriteWord words word metric additions comparisons room cell =
    CallsWrite (PlateLong words × HasCell cell) (WritesWord (plate_of words) word metric additions comparisons) room cell

abbrev pub CallsWriteRefused : ℕ → ℕ → ℕ → List ℕ → List ℕ → ℕ → List ℕ → List ℕ → Type 0
CallsWriteRefused number place field room cell = CallsWrite (HasCell cell) (WritesRefused number place field) room cell

abbrev pub CallsWriteEnd : ℕ → List ℕ → List ℕ → ℕ → List ℕ → List ℕ → Type 0
CallsWriteEnd blocks room cell = CallsWrite (HasCell cell) (WritesEnd blocks) room cell

-- the listing of a sheet: fixed is a cell for its length
abbrev pub CallsListing : List ℕ → Rooms → List ℕ → List ℕ → ℕ → Rooms → List ℕ → List ℕ → Type 0
CallsListing sheet working listing cell r working' listing' cell' =
    Calls (HasCell cell) (listing_cells working listing cell) (λ (l : Listing). WritesListing sheet working listing l.working l.listing l.reply) (listed cell)
    (record { code = r; cells = listing_cells working' listing' cell' })
