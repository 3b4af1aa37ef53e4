-- The kinds of listing line, byte by byte.
use Rattle.std.specs.Prelude.{eqb, leb, ltb, ℤ, Bool, cond, ◌&&◌, ◌||◌, ◌++◌, List, [], map, ◌∷◌, ◌+◌, ◌-◌, max, suc, zero, ℕ}
use Rattle.listings.specs.Decimal.{decimal, signed_decimal}
use Rattle.listings.specs.declared.Tally.{Tally}
use Rattle.words.specs.Letters.{bytes}
use Rattle.words.specs.Word.{bit}

-- ---- fields

-- fields that follow another, each after a tab, and the line feed
abbrev pub following : List (List ℕ) → List ℕ
following [] = 10 ∷ []
following (field ∷ fields) = 9 ∷ (field ++ following fields)

-- a line: fields parted by tabs, of which the first names its kind
abbrev pub line : List ℕ → List (List ℕ) → List ℕ
line name fields = name ++ following fields

-- `count` positions of a word from `position` on, as characters 0 or 1
abbrev pub positions : ℕ → ℕ → ℕ → List ℕ
positions word position zero = []
positions word position (suc count) = (48 + bit word position) ∷ positions word (suc position) count

-- the largest of some entries
abbrev pub largest : List ℕ → ℕ
largest [] = 0
largest (entry ∷ entries) = max entry (largest entries)

-- ---- lines: the first field of each kind is its name

abbrev pub plate_name : List ℕ
plate_name = bytes "plate"

abbrev pub profile_name : List ℕ
profile_name = bytes "profile"

abbrev pub word_name : List ℕ
word_name = bytes "word"

abbrev pub refused_name : List ℕ
refused_name = bytes "refused"

abbrev pub end_name : List ℕ
end_name = bytes "end"

-- plate: n, k, m, where m is the largest entry
unfoldable pub plate_line : ℕ → ℕ → List ℕ → List ℕ
plate_line n k entries = line plate_name (decimal n ∷ decimal k ∷ decimal (largest entries) ∷ [])

-- profile: s(0) to s(n)
unfoldable pub profile_line : List ℕ → List ℕ
profile_line entries = line profile_name (map decimal entries)

-- word: its first n positions, position 0 at the left, metric, additions, comparisons
unfoldable pub word_line : ℕ → ℕ → ℤ → ℕ → ℕ → List ℕ
word_line n word metric additions comparisons =
    line word_name (positions word 0 n ∷ signed_decimal metric ∷ decimal additions ∷ decimal comparisons ∷ [])

-- whether the place of a refusal is a line and a field: 10, and 17 to 20
abbrev pub names_field : ℕ → Bool
names_field number = eqb number 10 || (leb 17 number && leb number 20)

-- refused: number and place, which for those is line and field
unfoldable pub refused_line : ℕ → ℕ → ℕ → List ℕ
refused_line number place field = line refused_name (decimal number ∷ decimal place ∷ cond (names_field number) (decimal field ∷ []) [])

-- end: the number of block lines
unfoldable pub line_of_end : ℕ → List ℕ
line_of_end blocks = line end_name (decimal blocks ∷ [])

-- ---- the lines of a plate's weights

abbrev pub weight_name : List ℕ
weight_name = bytes "weight"

abbrev pub least_name : List ℕ
least_name = bytes "least"

abbrev pub none_field : List ℕ
none_field = bytes "none"

-- weight: a weight, and how many codewords have it
unfoldable pub weight_line : ℕ → ℕ → List ℕ
weight_line weight count = line weight_name (decimal weight ∷ decimal count ∷ [])

-- least: the smallest weight above zero
unfoldable pub least_line : ℕ → List ℕ
least_line weight = line least_name (decimal weight ∷ [])

-- least, where there is none
unfoldable pub no_least_line : List ℕ
no_least_line = line least_name (none_field ∷ [])

-- ---- the line of a shift's tally

abbrev pub tally_name : List ℕ
tally_name = bytes "tally"

-- one number less another, with a minus exactly when that is below 0
unfoldable pub less : ℕ → ℕ → List ℕ
less above below = cond (ltb above below) (45 ∷ decimal (below - above)) (decimal (above - below))

-- tally: lines decoded, refused, repeated, out of turn; counters missing; positions opposed, zero samples; the sum of metrics, and the number
-- decoded that it is over
unfoldable pub tally_line : Tally → List ℕ
tally_line t =
    line tally_name
    (decimal t.decoded ∷ decimal t.refused ∷ decimal t.repeated ∷ decimal t.late ∷ decimal t.missing ∷ decimal t.opposing
    ∷ decimal t.zeros ∷ less t.above t.below ∷ decimal t.decoded ∷ [])
