-- What writing a listing line into a lent room replies, and what it leaves there.
use Rattle.std.specs.Prelude.{ℤ, drop, length, take, ◌++◌, List, [], ◌∷◌, ◌≡◌, ◌+◌, ◌<◌, ℕ, Result, Ok, Err}
use Rattle.listings.specs.declared.Tally.{Tally}
use Rattle.listings.specs.Lines.{line_of_end, least_line, no_least_line, plate_line, profile_line, refused_line, tally_line, weight_line, word_line}
use Rattle.plates.specs.declared.Plate.{Plate}
use Rattle.plates.specs.declared.Refusal.{Refusal}
use Rattle.plates.specs.declared.Refusal.TheVariants.{LineRoom}
use Rattle.plates.specs.Prepare.{not_prepared}
use Rattle.plates.specs.Refusals.{Passes, Refuses}

-- 11: the line is longer than its room
abbrev pub line_room : List ℕ → List ℕ → Refusal → Type 0
line_room line room q = (length room < length line) × (q ≡ LineRoom)

-- What writing may reply under a call's conditions: refused, with the first refusal in order and the room as it was; or written, where no
-- condition holds, with the line's length and the line at the start of the room, the bytes after it as they were
abbrev pub WritesAs : List (Refusal → Type 0) → List ℕ → List ℕ → List ℕ → Result ℕ Refusal → Type 0
WritesAs conditions line room room' (Err q) = Refuses conditions q × (room' ≡ room)
WritesAs conditions line room room' (Ok size) = Passes conditions × (size ≡ length line) × (room' ≡ line ++ drop (length line) room)

-- the promise of a call that writes a line
pub record Writes (conditions : List (Refusal → Type 0)) (line room : List ℕ) (r : Result ℕ Refusal) (room' : List ℕ) : Type 0 where
  pub reply : WritesAs conditions line room room' r

-- a line that takes no plate: refusal 11
abbrev pub WritesLine : List ℕ → List ℕ → Result ℕ Refusal → List ℕ → Type 0
WritesLine line room = Writes (line_room line room ∷ []) line room

-- a line that takes a plate: refusals 5, 11
abbrev pub WritesOf : Plate → List ℕ → List ℕ → Result ℕ Refusal → List ℕ → Type 0
WritesOf plate line room = Writes (not_prepared plate ∷ line_room line room ∷ []) line room

-- ---- the calls

-- the profile's entries in use: s(0) to s(n)
abbrev pub entries_of : Plate → List ℕ
entries_of plate = take (plate.n + 1) plate.profile

-- plate: n, k and the largest entry
abbrev pub WritesPlate : Plate → List ℕ → Result ℕ Refusal → List ℕ → Type 0
WritesPlate plate = WritesOf plate (plate_line plate.n plate.k (entries_of plate))

-- profile: its entries in use
abbrev pub WritesProfile : Plate → List ℕ → Result ℕ Refusal → List ℕ → Type 0
WritesProfile plate = WritesOf plate (profile_line (entries_of plate))

-- word: its first n positions, its metric and the two counts
abbrev pub WritesWord : Plate → ℕ → ℤ → ℕ → ℕ → List ℕ → Result ℕ Refusal → List ℕ → Type 0
WritesWord plate word metric additions comparisons = WritesOf plate (word_line plate.n word metric additions comparisons)

-- refused: a number and a place, with a field where the number names one
abbrev pub WritesRefused : ℕ → ℕ → ℕ → List ℕ → Result ℕ Refusal → List ℕ → Type 0
WritesRefused number place field = WritesLine (refused_line number place field)

-- end: the number of block lines
abbrev pub WritesEnd : ℕ → List ℕ → Result ℕ Refusal → List ℕ → Type 0
WritesEnd blocks = WritesLine (line_of_end blocks)

-- weight: a weight and its count
abbrev pub WritesWeight : ℕ → ℕ → List ℕ → Result ℕ Refusal → List ℕ → Type 0
WritesWeight weight count = WritesLine (weight_line weight count)

-- least: the smallest weight above zero
abbrev pub WritesLeast : ℕ → List ℕ → Result ℕ Refusal → List ℕ → Type 0
WritesLeast weight = WritesLine (least_line weight)

-- least: none
abbrev pub WritesNoLeast : List ℕ → Result ℕ Refusal → List ℕ → Type 0
WritesNoLeast = WritesLine no_least_line

-- tally: the numbers of a shift
abbrev pub WritesTally : Tally → List ℕ → Result ℕ Refusal → List ℕ → Type 0
WritesTally tally = WritesLine (tally_line tally)
