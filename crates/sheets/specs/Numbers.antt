-- Numbers have one to four digits (n one to three, a counter one to five), no leading zero but for 0 itself, a minus only on a sample and never before 0.
use Rattle.std.specs.Prelude.{ℕ, ◌+◌, ◌*◌, ◌-◌, eqb, leb, ltb, ℤ, pos, neg_ℤ, length, get_or, drop, Bool, true, false, cond, ◌&&◌, List, [], ◌∷◌, Option, Some, None}

-- the characters 0 (48) to 9 (57)
abbrev pub is_digit : ℕ → Bool
is_digit x = leb 48 x && leb x 57

-- the value of a run of digits, v being that of the digits before them
abbrev pub digits_of : ℕ → List ℕ → Option ℕ
digits_of v [] = Some v
digits_of v (x ∷ xs) = cond (is_digit x) (digits_of (v * 10 + (x - 48)) xs) None

-- a zero with something after it
abbrev pub leading_zero : List ℕ → Bool
leading_zero f = ltb 1 (length f) && eqb (get_or f 0 0) 48

-- a number of one to `most` digits, with no leading zero but for 0 itself
abbrev pub number_of : ℕ → List ℕ → Option ℕ
number_of most f =
    cond (eqb (length f) 0) None (cond (ltb most (length f)) None (cond (leading_zero f) None (digits_of 0 f)))

-- a counter is at most 65535
abbrev pub counter_is : Option ℕ → Option ℕ
counter_is (Some v) = cond (leb v 65535) (Some v) None
counter_is None = None

-- a counter: a number of one to five digits
abbrev pub counter_of : List ℕ → Option ℕ
counter_of f = counter_is (number_of 5 f)

-- whether a field was a number
abbrev pub is_number : Option ℕ → Bool
is_number (Some v) = true
is_number None = false

-- its value, where it was
abbrev pub worth : Option ℕ → ℕ
worth (Some v) = v
worth None = 0

-- a number as a sample
abbrev pub plain : Option ℕ → Option ℤ
plain (Some v) = Some (pos v)
plain None = None

-- a number after a minus, which never stands before 0
abbrev pub negated : Option ℕ → Option ℤ
negated (Some v) = cond (eqb v 0) None (Some (neg_ℤ (pos v)))
negated None = None

-- a sample: a number of one to four digits, after a minus (45) or not
abbrev pub sample_of : List ℕ → Option ℤ
sample_of f =
    cond (eqb (length f) 0) None
    (cond (eqb (get_or f 0 0) 45) (negated (number_of 4 (drop 1 f))) (plain (number_of 4 f)))
