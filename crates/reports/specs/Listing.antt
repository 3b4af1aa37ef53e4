-- What writing a whole listing replies, and what it leaves in what was lent.
use Rattle.std.specs.Prelude.{◌≡◌, ℕ, suc, ◌+◌, ◌*◌, ◌<◌, ◌≤◌, List, [], ◌∷◌, ◌++◌, length, take, drop, ℤ, Option, Some, None, Result, Ok, Err}
use Rattle.plates.specs.declared.Plate.{Plate}
use Rattle.plates.specs.declared.Prepared.{Prepared}
use Rattle.plates.specs.declared.Refusal.{Refusal}
use Rattle.plates.specs.declared.Refusal.TheVariants.{DecisionRoom, LineRoom, MetricRoom}
use Rattle.plates.specs.Prepare.{Prepares}
use Rattle.plates.specs.Refusals.{Passes, Refuses}
use Rattle.sheets.specs.Sheet.{Contents, Reading, says, refused, reading}
use Rattle.reports.specs.declared.listing.Progress.{Progress}
use Rattle.reports.specs.declared.Report.{Report}
use Rattle.reports.specs.Remaining.{BlocksLeave, Leaves, Left, Ready, Rooms, lines_left}
use Rattle.reports.specs.Report.{Lists, joined}
use Rattle.reports.specs.Steps.{Opens}

-- ---- a line more

-- of how many bytes the line is that a step gave; 0 where it gave none
abbrev pub bytes_of : Result (Option ℕ) Refusal → ℕ
bytes_of (Ok (Some size)) = size
bytes_of (Ok None) = 0
bytes_of (Err q) = 0

-- ---- the working rooms afterwards

-- a matrix that is refused leaves them as they were
abbrev pub PreparedLeaves : Result (Unit {0}) Refusal → Plate → List (List ℤ) → Rooms → Rooms → Type 0
PreparedLeaves (Err q) plate blocks before after = after ≡ before
PreparedLeaves (Ok _) plate blocks before after = BlocksLeave plate blocks before after

pub record SheetLeaves (sheet : Contents) (before after : Rooms) : Type 0 where
  pub prepared : Prepared
  pub prepares : Prepares sheet.n sheet.kind sheet.rows sheet.mask prepared
  pub is : PreparedLeaves prepared.verdict prepared.plate sheet.blocks before after

-- a sheet that is refused does so too
abbrev pub LeavesAs : Reading → Rooms → Rooms → Type 0
LeavesAs (refused q) before after = after ≡ before
LeavesAs (says sheet) before after = SheetLeaves sheet before after

-- what the listing of an input leaves: block after block, what its line leaves
pub record ListingLeaves (input : List ℕ) (before after : Rooms) : Type 0 where
  pub is : LeavesAs (reading input) before after

-- ---- refusals 8, 9 and 11

-- 8: fewer metrics than the widest plate needs
abbrev pub metrics_short : Rooms → Refusal → Type 0
metrics_short lent q = (length lent.metrics < 8192) × (q ≡ MetricRoom)

-- 9: fewer decision words than such a plate needs
abbrev pub decisions_short : Rooms → Refusal → Type 0
decisions_short lent q = (length lent.decisions < 4096) × (q ≡ DecisionRoom)

-- 11: the room has not 256 bytes for each line that the input's report gives
pub record ListingShort (input listing : List ℕ) (q : Refusal) : Type 0 where
  pub report : Report
  pub opens : Opens input report
  pub short : length listing < 256 * lines_left input report
  pub is : q ≡ LineRoom

abbrev pub listing_conditions : List ℕ → Rooms → List ℕ → List (Refusal → Type 0)
listing_conditions input lent listing = metrics_short lent ∷ decisions_short lent ∷ ListingShort input listing ∷ []

-- ---- the reply

-- the listing stands at the start of its room, with the bytes after it as they were
pub record Listed (input : List ℕ) (lent : Rooms) (listing : List ℕ) (left : Rooms) (listing' : List ℕ) (size : ℕ) : Type 0 where
  pub bytes : List ℕ
  pub lists : Lists input bytes
  pub size_is : size ≡ length bytes
  pub listing_is : listing' ≡ bytes ++ drop (length bytes) listing
  pub working : ListingLeaves input lent left

-- What writing a listing replies: the first refusal in order with everything lent unchanged, or the size of the listing in its room
abbrev pub WritesListing : List ℕ → Rooms → List ℕ → Rooms → List ℕ → Result ℕ Refusal → Type 0
WritesListing input lent listing left listing' (Err q) = Refuses (listing_conditions input lent listing) q × (left ≡ lent) × (listing' ≡ listing)
WritesListing input lent listing left listing' (Ok size) = Passes (listing_conditions input lent listing) × Listed input lent listing left listing' size

-- ---- on the way

-- what one line more asks: a line is left, its room has 256 bytes, and the working rooms are enough for every plate
pub record BeforeLine (input : List ℕ) (p : Progress) (lent : Rooms) (listing : List ℕ) : Type 0 where
  pub ready : Ready input p.report
  pub more : 1 ≤ lines_left input p.report
  pub room : p.size + 256 ≤ length listing
  pub metrics : 8192 ≤ length lent.metrics
  pub decisions : 4096 ≤ length lent.decisions

-- the next of the lines that are left is written behind those before it
pub record LineAdded (input : List ℕ) (p : Progress) (lent : Rooms) (listing : List ℕ) (left : Rooms) (listing' : List ℕ) (p' : Progress) : Type 0 where
  pub line : List ℕ
  pub short : length line ≤ 256
  pub size : p'.size ≡ p.size + length line
  pub bytes : listing' ≡ take p.size listing ++ (line ++ drop (length line) (drop p.size listing))
  pub ready : Ready input p'.report
  pub next : (lines : List (List ℕ)) → Left input p'.report lines → Left input p.report (line ∷ lines)
  pub fewer : lines_left input p.report ≡ suc (lines_left input p'.report)
  pub working : (after : Rooms) → Leaves input p'.report left after → Leaves input p.report lent after

-- what all lines ask: so many are left, and the room has 256 bytes for each
pub record BeforeLines (input : List ℕ) (report : Report) (lines : ℕ) (lent : Rooms) (listing : List ℕ) : Type 0 where
  pub ready : Ready input report
  pub count : lines_left input report ≡ lines
  pub room : 256 * lines ≤ length listing
  pub metrics : 8192 ≤ length lent.metrics
  pub decisions : 4096 ≤ length lent.decisions

-- the lines that were left stand in the room
pub record LinesAdded (input : List ℕ) (report : Report) (lent : Rooms) (listing : List ℕ) (left : Rooms) (listing' : List ℕ) (size : ℕ) : Type 0 where
  pub lines : List (List ℕ)
  pub are : Left input report lines
  pub size_is : size ≡ length (joined lines)
  pub listing_is : listing' ≡ joined lines ++ drop (length (joined lines)) listing
  pub working : Leaves input report lent left
