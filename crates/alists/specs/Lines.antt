-- Reading a line: so many numbers with spaces between them, and a line feed.
use Rattle.std.specs.Prelude.{eqb, leb, Bool, ◌&&◌, cond, List, [], ◌∷◌, ◌*◌, ◌+◌, ◌-◌, suc, zero, ℕ}

-- a number at the start of a text with what stands after it, or that there is none
pub data Found : Type 0 where
  found : ℕ → List ℕ → Found
  nothing : Found

-- the numbers of the line at the start of a text with what stands after its line feed, or that the line is faulty
pub data Line : Type 0 where
  reads : List ℕ → List ℕ → Line
  faulty : Line

-- the characters 0 (48) to 9 (57)
abbrev pub is_digit : ℕ → Bool
is_digit x = leb 48 x && leb x 57

-- a digit, and after another than 0 a second one
abbrev pub more_of : ℕ → List ℕ → Found
more_of d [] = found d []
more_of d (x ∷ s) = cond (is_digit x) (cond (eqb d 0) nothing (found (d * 10 + (x - 48)) s)) (found d (x ∷ s))

-- a number of one or two digits
abbrev pub number_of : List ℕ → Found
number_of [] = nothing
number_of (x ∷ s) = cond (is_digit x) (more_of (x - 48) s) nothing

-- what stands after the spaces (32)
abbrev pub skipped : List ℕ → List ℕ
skipped [] = []
skipped (x ∷ s) = cond (eqb x 32) (skipped s) (x ∷ s)

-- a number after one or several spaces
abbrev pub next_of : List ℕ → Found
next_of [] = nothing
next_of (x ∷ s) = cond (eqb x 32) (number_of (skipped s)) nothing

-- the line feed (10)
abbrev pub feed_of : List ℕ → Line
feed_of [] = faulty
feed_of (x ∷ s) = cond (eqb x 10) (reads [] s) faulty

-- a number before others
abbrev pub before : ℕ → Line → Line
before v (reads vs s) = reads (v ∷ vs) s
before v faulty = faulty

-- a number, and what stands after it read on
abbrev pub further : Found → (List ℕ → Line) → Line
further (found v s) on = before v (on s)
further nothing on = faulty

-- so many further numbers of a line, and its end
abbrev pub rest_of : ℕ → List ℕ → Line
rest_of zero s = feed_of s
rest_of (suc count) s = further (next_of s) (rest_of count)

-- a line of so many numbers; with none it is the line feed alone
abbrev pub line_of : ℕ → List ℕ → Line
line_of zero s = feed_of s
line_of (suc count) s = further (number_of s) (rest_of count)
