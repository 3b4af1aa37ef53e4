-- How all positions of a block judged cross the interface: the cells, how each reading stands in them, and the promise of the call.
use Rattle.std.specs.Prelude.{pos, ℤ, get_or, length, set, List, ◌≡◌, ◌<◌, ℕ, ◌≤◌, Result, Ok, Err}
use Rattle.decoding.specs.Decode.{Zeroed, decode_conditions}
use Rattle.decoding.specs.declared.firmness.Flag.{Flag}
use Rattle.decoding.specs.Firmness.{FlagOf, TellsFirmness, value}
use Rattle.exports.specs.Calls.{Calls, Crossing, done}
use Rattle.exports.specs.Flat.{plate_of}
use Rattle.exports.specs.Judging.{fixed_cell}
use Rattle.plates.specs.declared.Plate.{Plate}
use Rattle.plates.specs.declared.Refusal.{Refusal}
use Rattle.plates.specs.Prepare.{IsWord}
use Rattle.plates.specs.Refusals.{Passes, Refuses, number, place}

-- the rooms and the cells for readings that are lent to the call
pub record FirmRooms : Type 0 where
  pub metrics : List ℤ
  pub decisions : List ℕ
  pub fixed : List ℕ
  pub values : List ℤ

-- the same, one by one
abbrev pub firm_rooms : List ℤ → List ℕ → List ℕ → List ℤ → FirmRooms
firm_rooms metrics decisions fixed values = record { metrics = metrics; decisions = decisions; fixed = fixed; values = values }

-- ---- the readings

-- f and v are what the cells of firmness at a position are: whether its reading is fixed, and its value
pub record FirmAt (plate : Plate) (samples : List ℤ) (position f : ℕ) (v : ℤ) : Type 0 where
  pub flag : Flag
  pub right : FlagOf (IsWord plate) samples position flag
  pub fixed_is : f ≡ fixed_cell flag.reading
  pub value_is : v ≡ value flag.reading

-- the first m cells have the readings of their positions, and those behind them are as they were
pub record EachFirm (plate : Plate) (samples : List ℤ) (m : ℕ) (fixed : List ℕ) (values : List ℤ) (fixed' : List ℕ) (values' : List ℤ) : Type 0 where
  pub fixed_size : length fixed' ≡ length fixed
  pub values_size : length values' ≡ length values
  pub each : (i : ℕ) → i < m → FirmAt plate samples i (get_or fixed' i 0) (get_or values' i (pos 0))
  pub fixed_behind : (i : ℕ) → m ≤ i → get_or fixed' i 0 ≡ get_or fixed i 0
  pub values_behind : (i : ℕ) → m ≤ i → get_or values' i (pos 0) ≡ get_or values i (pos 0)

-- the first m positions of a block that is not refused are read, and the needed room is zeroed
pub record ReadTo (plate : Plate) (samples : List ℤ) (m : ℕ) (lent lent' : FirmRooms) : Type 0 where
  pub passes : Passes (decode_conditions plate samples lent.metrics lent.decisions)
  pub firm : EachFirm plate samples m lent.fixed lent.values lent'.fixed lent'.values
  pub zeroed : Zeroed plate lent.metrics lent'.metrics lent.decisions lent'.decisions

-- What all positions reply: the first of decoding's refusals, 5 to 9, with all that is lent unchanged, or the readings of the n positions
abbrev pub TellsEach : Plate → List ℤ → FirmRooms → FirmRooms → Result (Unit {0}) Refusal → Type 0
TellsEach plate samples lent lent' (Ok _) = ReadTo plate samples plate.n lent lent'
TellsEach plate samples lent lent' (Err q) = Refuses (decode_conditions plate samples lent.metrics lent.decisions) q × (lent' ≡ lent)

-- ---- how it crosses

-- the cells that are lent to the call
pub record PositionCells : Type 0 where
  pub rooms : FirmRooms
  pub at : List ℕ

-- the same, one by one
abbrev pub position_cells : FirmRooms → List ℕ → PositionCells
position_cells rooms at = record { rooms = rooms; at = at }

-- what is replied, with what is lent as it is left
pub record Reading : Type 0 where
  pub reply : Result (Unit {0}) Refusal
  pub rooms : FirmRooms

-- place 0, or the place of the refusal
abbrev pub read_as : List ℕ → FirmRooms → Result (Unit {0}) Refusal → Crossing PositionCells
read_as at rooms (Ok _) = record { code = done; cells = position_cells rooms (set at 0 0) }
read_as at rooms (Err q) = record { code = number q; cells = position_cells rooms (set at 0 (place q)) }

abbrev pub readings : PositionCells → Reading → Crossing PositionCells
readings lent r = read_as lent.at r.rooms r.reply

-- how long the plate's run, the cells for the readings and that of the place must be
abbrev pub PositionShape : ℕ → ℕ → ℕ → ℕ → Type 0
PositionShape plate fixed values at = (132 ≤ plate) × (64 ≤ fixed) × (64 ≤ values) × (1 ≤ at)

-- fixed are the plate's run, 64 cells each for whether a reading is fixed and for its value, and that of the place
abbrev pub CallsFirmnessAll : List ℕ → List ℤ → PositionCells → ℕ → PositionCells → Type 0
CallsFirmnessAll words samples lent r lent' =
    Calls (PositionShape (length words) (length lent.rooms.fixed) (length lent.rooms.values) (length lent.at)) lent
    (λ (x : Reading). TellsEach (plate_of words) samples lent.rooms x.rooms x.reply) (readings lent) (record { code = r; cells = lent' })

-- ---- what the crate's own functions promise one another

-- one position: its flag in its cells
pub record PositionPut (plate : Plate) (samples : List ℤ) (position : ℕ) (lent lent' : FirmRooms) : Type 0 where
  pub flag : Flag
  pub told : TellsFirmness plate samples position lent.metrics lent.decisions lent'.metrics lent'.decisions (Ok flag)
  pub fixed_is : lent'.fixed ≡ set lent.fixed position (fixed_cell flag.reading)
  pub value_is : lent'.values ≡ set lent.values position (value flag.reading)

-- or why there is none, with the cells as they were
abbrev pub PutsPosition : Plate → List ℤ → ℕ → FirmRooms → FirmRooms → Result (Unit {0}) Refusal → Type 0
PutsPosition plate samples position lent lent' (Ok _) = PositionPut plate samples position lent lent'
PutsPosition plate samples position lent lent' (Err q) =
    TellsFirmness plate samples position lent.metrics lent.decisions lent'.metrics lent'.decisions (Err q)
    × (lent'.fixed ≡ lent.fixed) × (lent'.values ≡ lent.values)

-- where the first i positions were read, the first j are
abbrev pub ReadsOn : Plate → List ℤ → ℕ → ℕ → FirmRooms → FirmRooms → Type 0
ReadsOn plate samples i j rooms rooms' = (lent : FirmRooms) → ReadTo plate samples i lent rooms → ReadTo plate samples j lent rooms'
