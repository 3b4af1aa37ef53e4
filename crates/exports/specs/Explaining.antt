-- How a reason crosses the interface: the cells, how it stands in them, and the promise of the call.
use Rattle.plates.specs.declared.Refusal.{Refusal}
use Rattle.std.specs.Prelude.{pos, ℤ, length, set, List, ◌≡◌, ℕ, Result, Ok, Err}
use Rattle.asking.specs.Asking.{Asks}
use Rattle.asking.specs.declared.Reason.{Reason}
use Rattle.asking.specs.declared.Reason.TheVariants.{Chosen, NoCodeword, ScoresLess, TiesAndLoses}
use Rattle.exports.specs.Calls.{Calls, Crossing, done}
use Rattle.exports.specs.Flat.{plate_of}
use Rattle.exports.specs.Parting.{PartShape}
use Rattle.plates.specs.declared.Plate.{Plate}
use Rattle.plates.specs.Refusals.{number, place}

-- the cells that are lent to the call
pub record ReasonCells : Type 0 where
  pub metrics : List ℤ
  pub decisions : List ℕ
  pub told : List ℕ
  pub difference : List ℤ
  pub at : List ℕ

-- the same, one by one
abbrev pub reason_cells : List ℤ → List ℕ → List ℕ → List ℤ → List ℕ → ReasonCells
reason_cells metrics decisions told difference at = record { metrics = metrics; decisions = decisions; told = told; difference = difference; at = at }

-- which reason it is
abbrev pub reason_number : Reason → ℕ
reason_number Chosen = 0
reason_number (NoCodeword p) = 1
reason_number (ScoresLess d) = 2
reason_number (TiesAndLoses p) = 3

-- its position, and 0 where it has none
abbrev pub reason_position : Reason → ℕ
reason_position Chosen = 0
reason_position (NoCodeword p) = p
reason_position (ScoresLess d) = 0
reason_position (TiesAndLoses p) = p

-- its difference, and 0 where it has none
abbrev pub reason_difference : Reason → ℤ
reason_difference Chosen = pos 0
reason_difference (NoCodeword p) = pos 0
reason_difference (ScoresLess d) = d
reason_difference (TiesAndLoses p) = pos 0

-- the number and the position stand in the first two cells
abbrev pub told_put : List ℕ → Reason → List ℕ
told_put cells reason = set (set cells 0 (reason_number reason)) 1 (reason_position reason)

-- a reason stands in its cells
pub record ReasonPut (reason : Reason) (told : List ℕ) (difference : List ℤ) (told' : List ℕ) (difference' : List ℤ) : Type 0 where
  pub told_is : told' ≡ told_put told reason
  pub difference_is : difference' ≡ set difference 0 (reason_difference reason)

-- what the call below replies, with the two rooms as it leaves them
pub record Explaining : Type 0 where
  pub reply : Result Reason Refusal
  pub metrics : List ℤ
  pub decisions : List ℕ

-- the reason and place 0; or the place of the refusal alone
abbrev pub explained_as : ReasonCells → List ℤ → List ℕ → Result Reason Refusal → Crossing ReasonCells
explained_as lent metrics decisions (Ok reason) = record {
  code = done;
  cells = reason_cells metrics decisions (told_put lent.told reason) (set lent.difference 0 (reason_difference reason)) (set lent.at 0 0);
}
explained_as lent metrics decisions (Err q) =
    record { code = number q; cells = reason_cells metrics decisions lent.told lent.difference (set lent.at 0 (place q)) }

abbrev pub explained : ReasonCells → Explaining → Crossing ReasonCells
explained lent x = explained_as lent x.metrics x.decisions x.reply

-- what the call below promises of its reply and its rooms
abbrev pub AsksTo : Plate → List ℤ → ℕ → ReasonCells → Explaining → Type 0
AsksTo plate samples word lent x = Asks plate samples word lent.metrics lent.decisions x.metrics x.decisions x.reply

-- fixed are the plate's run, the cells for the difference, for the reason with its position, and that of the place
abbrev pub CallsWhyNot : List ℕ → List ℤ → ℕ → ReasonCells → ℕ → ReasonCells → Type 0
CallsWhyNot words samples word lent r lent' =
    Calls (PartShape (length words) (length lent.difference) (length lent.told) (length lent.at)) lent
    (AsksTo (plate_of words) samples word lent) (explained lent) (record { code = r; cells = lent' })
