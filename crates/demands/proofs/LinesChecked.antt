-- Tests of a written line, byte by byte.
use Rattle.std.proofs.Common.{Result, Ok}
use lib.ListN.{drop, length}
use mathlib.Core.List.{◌++◌, List, [], ◌∷◌}
use mathlib.Core.Path.{ap₂, subst, sym}
use Prim.Native.Nat.{ℕ}
use Rattle.demands.proofs.Checking.{Check, both, by, list}
use Rattle.demands.proofs.Demand1.{line-single, plate-line-single}
use Rattle.demands.proofs.PlatesChecked.{is_prepared}
use Rattle.demands.specs.Examples.{Exactly, Writing}
use Rattle.listings.proofs.Conditions.{fits-room}
use Rattle.listings.proofs.Determined.{determined}
use Rattle.listings.proofs.OfPlate.{plate-passed}
use Rattle.listings.specs.Writing.{Writes, WritesLine, WritesOf, line_room}
use Rattle.plates.proofs.Refusing.{Single}
use Rattle.plates.specs.declared.Plate.{Plate}
use Rattle.plates.specs.declared.Refusal.{Refusal}
use Rattle.plates.specs.Prepare.{IsPrepared, not_prepared}

-- one reply and one room after it meet the promise
written-exactly : (cs : List (Refusal → Type 0)) → Single cs → (line room : List ℕ)
    → Writes cs line room (Ok (length line)) (line ++ drop (length line) room)
    → Exactly (λ (x : Result ℕ Refusal × List ℕ). Writes cs line room x.0 x.1) (Ok (length line), line ++ drop (length line) room)
written-exactly cs single line room w r = (
  (λ x. let e = determined cs single line room x w in ap₂ (λ (y : Result ℕ Refusal) (z : List ℕ). (y, z)) e.0 e.1),
  λ e. subst (λ (x : Result ℕ Refusal × List ℕ). Writes cs line room x.0 x.1) (sym e) w,
)

-- a line that takes a plate, which is prepared
pub plate-line-written : (plate : Plate) (line : List ℕ) → IsPrepared plate → Writing (WritesOf plate line) line
plate-line-written plate line p room h =
    written-exactly (not_prepared plate ∷ line_room line room ∷ []) (plate-line-single plate line room) line room
    (plate-passed p (fits-room line room h))

-- a line that takes none
pub line-written : (line : List ℕ) → Writing (WritesLine line) line
line-written line room h = written-exactly (line_room line room ∷ []) (line-single line room) line room (fits-room line room h)

-- a call's own line has these bytes
abbrev pub plate_line_is : (plate : Plate) (own line : List ℕ) → Check (Writing (WritesOf plate own) line)
plate_line_is plate own line =
    by (λ p. subst (Writing (WritesOf plate own)) p.1 (plate-line-written plate own p.0)) (both (is_prepared plate) (list own line))

-- the same of a line that takes no plate
abbrev pub line_is : (own line : List ℕ) → Check (Writing (WritesLine own) line)
line_is own line = by (λ p. subst (Writing (WritesLine own)) p (line-written own)) (list own line)
