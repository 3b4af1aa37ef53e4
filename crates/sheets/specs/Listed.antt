-- A line of a supplier's listing: the word branch, then depth, from-state, bit and to-state.
use Rattle.std.specs.Prelude.{ℕ, ltb, cond, List, [], ◌∷◌, Option, Some, None}
use Rattle.words.specs.Letters.{bytes}
use Rattle.sheets.specs.Blocks.{next_line}
use Rattle.sheets.specs.Numbers.{number_of}
use Rattle.sheets.specs.Text.{fields, lines, lines_from}
use Rattle.sheets.specs.Words.{same}
use Rattle.sheets.specs.declared.listed.Branch.{Branch}
use Rattle.sheets.specs.declared.listed.Entry.{Entry}

-- the first field of such a line
abbrev pub branch : List ℕ
branch = bytes "branch"

-- four numbers make a branch where the depth is below n, the states are 0 to 1023 and the bit is 0 or 1
abbrev pub branch_in : ℕ → Branch → Option Branch
branch_in n b = cond (ltb b.depth n) (cond (ltb b.from 1024) (cond (ltb b.bit 2) (cond (ltb b.to 1024) (Some b) None) None) None) None

abbrev pub branch_is : ℕ → Option ℕ → Option ℕ → Option ℕ → Option ℕ → Option Branch
branch_is n None from bit to = None
branch_is n (Some d) None bit to = None
branch_is n (Some d) (Some f) None to = None
branch_is n (Some d) (Some f) (Some b) None = None
branch_is n (Some d) (Some f) (Some b) (Some t) = branch_in n (record { depth = d; from = f; bit = b; to = t })

-- by their fields
unfoldable pub branch_fields : ℕ → List ℕ → List ℕ → List ℕ → List ℕ → Option Branch
branch_fields n f g h k = branch_is n (number_of 4 f) (number_of 4 g) (number_of 4 h) (number_of 4 k)

-- exactly four fields after the word
abbrev pub branch_rest : ℕ → List (List ℕ) → Option Branch
branch_rest n [] = None
branch_rest n (f ∷ []) = None
branch_rest n (f ∷ g ∷ []) = None
branch_rest n (f ∷ g ∷ h ∷ []) = None
branch_rest n (f ∷ g ∷ h ∷ k ∷ []) = branch_fields n f g h k
branch_rest n (f ∷ g ∷ h ∷ k ∷ i ∷ fs) = None

-- a line by its fields: the first is the word branch
abbrev pub branch_of : ℕ → List (List ℕ) → Option Branch
branch_of n [] = None
branch_of n (w ∷ fs) = cond (same w branch) (branch_rest n fs) None

-- the line at the front of some lines: what follows the last line feed is no line
abbrev pub branch_front : ℕ → List (List ℕ) → Option Branch
branch_front n [] = None
branch_front n (l ∷ []) = None
branch_front n (l ∷ m ∷ ls) = branch_of n (fields l)

-- the line that begins at a place of a text, and where the next begins
abbrev pub entry_at : ℕ → List ℕ → ℕ → Entry
entry_at n s at = record { line = branch_front n (lines_from s at); next = next_line s at }

-- what follows the last line feed is a bad line, unless it is empty
abbrev pub unended : List ℕ → List (Option Branch)
unended [] = []
unended (x ∷ xs) = None ∷ []

-- each line in turn
abbrev pub entries_of : ℕ → List (List ℕ) → List (Option Branch)
entries_of n [] = []
entries_of n (l ∷ []) = unended l
entries_of n (l ∷ m ∷ ls) = branch_of n (fields l) ∷ entries_of n (m ∷ ls)

-- the lines of a listing
abbrev pub entries : ℕ → List ℕ → List (Option Branch)
entries n s = entries_of n (lines s)
