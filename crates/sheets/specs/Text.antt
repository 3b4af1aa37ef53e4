-- Lines and fields: lines end with a line feed, fields are parted by tabs.
use Rattle.std.specs.Prelude.{ℕ, zero, suc, ◌+◌, eqb, leb, length, drop, cond, List, [], ◌∷◌}

-- the byte between two fields
abbrev pub tab : ℕ
tab = 9

-- the byte that ends a line
abbrev pub line_feed : ℕ
line_feed = 10

-- how many bytes stand before the first b: all of them, where there is none
abbrev pub till : ℕ → List ℕ → ℕ
till b [] = 0
till b (x ∷ xs) = cond (eqb x b) 0 (suc (till b xs))

-- x in front of the first part
abbrev pub onto : ℕ → List (List ℕ) → List (List ℕ)
onto x [] = (x ∷ []) ∷ []
onto x (p ∷ ps) = (x ∷ p) ∷ ps

-- the parts of a text: what each b ends, and what follows the last b
abbrev pub parts : ℕ → List ℕ → List (List ℕ)
parts b [] = [] ∷ []
parts b (x ∷ xs) = cond (eqb x b) ([] ∷ parts b xs) (onto x (parts b xs))

-- the fields of a line
abbrev pub fields : List ℕ → List (List ℕ)
fields line = parts tab line

-- the lines of a text; what follows the last line feed stands last, and is no line
abbrev pub lines : List ℕ → List (List ℕ)
lines s = parts line_feed s

-- the parts from a place on: none where it is past the end
abbrev pub parts_from : ℕ → List ℕ → ℕ → List (List ℕ)
parts_from b s at = cond (leb at (length s)) (parts b (drop at s)) []

-- the fields of a line from a place on
abbrev pub fields_from : List ℕ → ℕ → List (List ℕ)
fields_from line at = parts_from tab line at

-- the lines of a text from a place on
abbrev pub lines_from : List ℕ → ℕ → List (List ℕ)
lines_from s at = parts_from line_feed s at

-- where line k begins, the first being line 0: each line before it takes its bytes and its line feed
abbrev pub begins : List (List ℕ) → ℕ → ℕ
begins ls zero = 0
begins [] (suc k) = 0
begins (l ∷ ls) (suc k) = length l + 1 + begins ls k
