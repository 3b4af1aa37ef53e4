-- What is left of a report: its lines, how many they are, and what giving them leaves in the working rooms.
use Rattle.std.specs.Prelude.{◌≡◌, ℕ, ◌+◌, ◌*◌, ◌^◌, ◌≤◌, Bool, true, false, List, [], ◌∷◌, length, ℤ}
use Rattle.plates.specs.declared.Plate.{Plate}
use Rattle.plates.specs.declared.Refusal.{Refusal}
use Rattle.plates.specs.Prepare.{IsPrepared}
use Rattle.plates.specs.Refusals.{Passes, Refuses}
use Rattle.decoding.specs.Decode.{Zeroed}
use Rattle.sheets.specs.Blocks.{blocks_of, counters_of}
use Rattle.sheets.specs.Text.{lines_from}
use Rattle.sheets.specs.Turning.{by_position}
use Rattle.listings.specs.declared.Tally.{Tally}
use Rattle.listings.specs.Lines.{line_of_end}
use Rattle.reports.specs.declared.Report.{Report}
use Rattle.reports.specs.declared.Stage.{Stage}
use Rattle.reports.specs.declared.Stage.TheVariants as S
use Rattle.reports.specs.Steps.{Lent}
use Rattle.reports.specs.Report.{LinesReport, PlateReports, ProfileReports, block_conditions, line_of_refusal}

-- the blocks that are left, in order of position
abbrev pub blocks_at : List ℕ → Report → List (List ℤ)
blocks_at input report = by_position report.order (blocks_of report.heard (lines_from input report.at))

-- and their counters
abbrev pub counters_at : List ℕ → Report → List ℕ
counters_at input report = counters_of (length (blocks_of report.heard (lines_from input report.at))) (lines_from input report.at)

-- each number of a tally has room for what so many lines more may add to it, of which none adds more than 131,008
pub record HasRoom (t : Tally) (left : ℕ) : Type 0 where
  pub decoded : t.decoded + 131008 * left ≤ 2 ^ 62
  pub refused : t.refused + 131008 * left ≤ 2 ^ 62
  pub repeated : t.repeated + 131008 * left ≤ 2 ^ 62
  pub late : t.late + 131008 * left ≤ 2 ^ 62
  pub missing : t.missing + 131008 * left ≤ 2 ^ 62
  pub opposing : t.opposing + 131008 * left ≤ 2 ^ 62
  pub zeros : t.zeros + 131008 * left ≤ 2 ^ 62
  pub above : t.above + 131008 * left ≤ 2 ^ 62
  pub below : t.below + 131008 * left ≤ 2 ^ 62

-- at a stage where the plate is used, it is prepared, and the tally has room for the lines that are left
abbrev pub ReadyAt : Stage → List ℕ → Report → Type 0
ReadyAt (S.Refused q) input report = Unit {0}
ReadyAt S.PlateLine input report = IsPrepared report.plate × HasRoom report.kept.tally (length (blocks_at input report))
ReadyAt S.ProfileLine input report = IsPrepared report.plate × HasRoom report.kept.tally (length (blocks_at input report))
ReadyAt S.BlockLines input report = IsPrepared report.plate × HasRoom report.kept.tally (length (blocks_at input report))
ReadyAt S.EndLine input report = Unit {0}
ReadyAt S.Done input report = Unit {0}

abbrev pub Ready : List ℕ → Report → Type 0
Ready input report = ReadyAt report.stage input report

-- ---- lines

-- those of the blocks or heard lines
abbrev pub LinesLeft : List ℕ → Report → List (List ℕ) → Type 0
LinesLeft input report = LinesReport report.heard report.order report.plate report.blocks report.kept (counters_at input report) (blocks_at input report)

-- the lines that are left
abbrev pub LeftAt : Stage → List ℕ → Report → List (List ℕ) → Type 0
LeftAt (S.Refused q) input report lines = lines ≡ line_of_refusal q ∷ []
LeftAt S.PlateLine input report lines = PlateReports report.plate (LinesLeft input report) lines
LeftAt S.ProfileLine input report lines = ProfileReports report.plate (LinesLeft input report) lines
LeftAt S.BlockLines input report lines = LinesLeft input report lines
LeftAt S.EndLine input report lines = lines ≡ line_of_end report.blocks ∷ []
LeftAt S.Done input report lines = lines ≡ []

abbrev pub Left : List ℕ → Report → List (List ℕ) → Type 0
Left input report lines = LeftAt report.stage input report lines

-- how many they are: one for a refusal, and else the plate line, the profile line, one for each block line, and the end line; and for heard lines
-- one for each, though a repeat has no bytes, and the tally
abbrev pub tallies : Bool → ℕ
tallies false = 0
tallies true = 1

abbrev pub count_at : Stage → Bool → ℕ → ℕ
count_at (S.Refused q) heard blocks = 1
count_at S.PlateLine heard blocks = blocks + tallies heard + 3
count_at S.ProfileLine heard blocks = blocks + tallies heard + 2
count_at S.BlockLines heard blocks = blocks + tallies heard + 1
count_at S.EndLine heard blocks = 1
count_at S.Done heard blocks = 0

abbrev pub lines_left : List ℕ → Report → ℕ
lines_left input report = count_at report.stage report.heard (length (blocks_at input report))

-- ---- the working rooms

pub record Rooms : Type 0 where
  pub metrics : List ℤ
  pub decisions : List ℕ

abbrev pub rooms : List ℤ → List ℕ → Rooms
rooms metrics decisions = record { metrics = metrics; decisions = decisions }

-- those among what is lent
abbrev pub working_of : Lent → Rooms
working_of lent = rooms lent.metrics lent.decisions

-- what the line of a block leaves there: all as it was where the block is refused, and else what decoding leaves
pub data BlockLeaves (plate : Plate) (samples : List ℤ) (before after : Rooms) : Type 0 where
  untouched : (q : Refusal) → Refuses (block_conditions plate samples) q → after ≡ before → BlockLeaves plate samples before after
  zeroed : Passes (block_conditions plate samples) → Zeroed plate before.metrics after.metrics before.decisions after.decisions
      → BlockLeaves plate samples before after

-- block after block
abbrev pub BlocksLeave : Plate → List (List ℤ) → Rooms → Rooms → Type 0
BlocksLeave plate [] before after = after ≡ before
BlocksLeave plate (samples ∷ blocks) before after = (between : Rooms) × BlockLeaves plate samples before between × BlocksLeave plate blocks between after

-- the lines that are left
abbrev pub LeavesAt : Stage → List ℕ → Report → Rooms → Rooms → Type 0
LeavesAt (S.Refused q) input report before after = after ≡ before
LeavesAt S.PlateLine input report before after = BlocksLeave report.plate (blocks_at input report) before after
LeavesAt S.ProfileLine input report before after = BlocksLeave report.plate (blocks_at input report) before after
LeavesAt S.BlockLines input report before after = BlocksLeave report.plate (blocks_at input report) before after
LeavesAt S.EndLine input report before after = after ≡ before
LeavesAt S.Done input report before after = after ≡ before

abbrev pub Leaves : List ℕ → Report → Rooms → Rooms → Type 0
Leaves input report before after = LeavesAt report.stage input report before after
