-- How a position judged crosses the interface: the cells, how a reading stands in them, and the promise of the call.
use Rattle.plates.specs.declared.Refusal.{Refusal}
use Rattle.decoding.specs.declared.firmness.Flag.{Flag}
use Rattle.std.specs.Prelude.{ℤ, length, set, Bool, cond, false, true, List, ◌≡◌, ◌<◌, ℕ, ◌≤◌, Result, Ok, Err}
use Rattle.decoding.specs.declared.firmness.Reading.{Reading}
use Rattle.decoding.specs.declared.firmness.Reading.TheVariants.{Fixed, Open}
use Rattle.decoding.specs.Firmness.{TellsFirmness, is_fixed, value}
use Rattle.exports.specs.Calls.{Calls, Crossing, done}
use Rattle.exports.specs.Flat.{plate_of}
use Rattle.plates.specs.declared.Plate.{Plate}
use Rattle.plates.specs.Refusals.{number, place}

-- the cells that are lent to firmness
pub record FirmnessCells : Type 0 where
  pub metrics : List ℤ
  pub decisions : List ℕ
  pub fixed : List ℕ
  pub value : List ℤ
  pub at : List ℕ

-- the same, one by one
abbrev pub firmness_cells : List ℤ → List ℕ → List ℕ → List ℤ → List ℕ → FirmnessCells
firmness_cells metrics decisions fixed value at = record { metrics = metrics; decisions = decisions; fixed = fixed; value = value; at = at }

-- what firmness replies, with the two rooms as it leaves them
pub record Judging : Type 0 where
  pub reply : Result Flag Refusal
  pub metrics : List ℤ
  pub decisions : List ℕ

-- 1 where a reading is fixed, and 0 where it is open
abbrev pub fixed_cell : Reading → ℕ
fixed_cell reading = cond (is_fixed reading) 1 0

-- a bit that is fixed fits a cell of a margin
abbrev pub FixedFits : Reading → Type 0
FixedFits (Fixed b) = b < 2
FixedFits (Open margin) = Unit {0}

-- a reading stands in its cells at a place
pub record ReadingPut (reading : Reading) (place : ℕ) (fixed : List ℕ) (values : List ℤ) (fixed' : List ℕ) (values' : List ℤ) : Type 0 where
  pub fixed_is : fixed' ≡ set fixed place (fixed_cell reading)
  pub value_is : values' ≡ set values place (value reading)

-- firmness: whether the reading is fixed, its value, and place 0; or the place of the refusal alone
abbrev pub judged_as : FirmnessCells → List ℤ → List ℕ → Result Flag Refusal → Crossing FirmnessCells
judged_as lent metrics decisions (Ok flag) = record {
  code = done;
  cells = record {
    metrics = metrics;
    decisions = decisions;
    fixed = set lent.fixed 0 (fixed_cell flag.reading);
    value = set lent.value 0 (value flag.reading);
    at = set lent.at 0 0;
  };
}
judged_as lent metrics decisions (Err q) = record {
  code = number q;
  cells = record {
    metrics = metrics;
    decisions = decisions;
    fixed = lent.fixed;
    value = lent.value;
    at = set lent.at 0 (place q);
  };
}

abbrev pub judged : FirmnessCells → Judging → Crossing FirmnessCells
judged lent j = judged_as lent j.metrics j.decisions j.reply

-- how long the plate's run, the cells for the reading and that of the place must be
abbrev pub FirmnessShape : ℕ → ℕ → ℕ → ℕ → Type 0
FirmnessShape plate fixed value at = (132 ≤ plate) × (1 ≤ fixed) × (1 ≤ value) × (1 ≤ at)

-- what the test of these lengths replies
pub record FirmnessTested (plate fixed value at : ℕ) (r : Bool) : Type 0 where
  pub yes_is : r ≡ true → FirmnessShape plate fixed value at
  pub no_is : r ≡ false → FirmnessShape plate fixed value at → ⊥

-- what firmness promises of its reply and its rooms
abbrev pub JudgesTo : Plate → List ℤ → ℕ → FirmnessCells → Judging → Type 0
JudgesTo plate samples position lent j = TellsFirmness plate samples position lent.metrics lent.decisions j.metrics j.decisions j.reply

-- firmness: fixed are the plate's run, the cells for the reading and that of the place
abbrev pub CallsFirmness : List ℕ → List ℤ → ℕ → FirmnessCells → ℕ → FirmnessCells → Type 0
CallsFirmness words samples position lent r lent' =
    Calls (FirmnessShape (length words) (length lent.fixed) (length lent.value) (length lent.at)) lent
    (JudgesTo (plate_of words) samples position lent) (judged lent) (record { code = r; cells = lent' })
