-- The working table of a preparing: what searches in it find, and what its row operations leave.
use Rattle.std.specs.Int.Bits.{bit_xor}
use Rattle.std.specs.Prelude.{get_or, length, set, List, MatchOption, Option, ◌⊎◌, ◌≡◌, ◌+◌, ◌<◌, ◌^◌, ℕ, ◌≤◌}
use Rattle.words.specs.Parity.{parity}
use Rattle.words.specs.Span.{Last}
use Rattle.words.specs.Sum.{IsSum, taken}

-- t holds words of length n in its first `used` places, and zero words in the others
pub record Table (t : List ℕ) (n used : ℕ) : Type 0 where
  pub size : length t ≡ 64
  pub short : n ≤ 64
  pub few : used ≤ 64
  pub narrow : (j : ℕ) → get_or t j 0 < 2 ^ n
  pub unused : (j : ℕ) → used ≤ j → get_or t j 0 ≡ 0

-- two lists of rows have the same sums
pub record SameSums (a b : List ℕ) : Type 0 where
  pub to : (w : ℕ) → IsSum a w → IsSum b w
  pub from : (w : ℕ) → IsSum b w → IsSum a w

-- ---- searches

-- no value from place a on, before b, has P
abbrev pub NoneIn : List ℕ → (ℕ → Type 0) → ℕ → ℕ → Type 0
NoneIn xs P a b = (j : ℕ) → a ≤ j → j < b → P (get_or xs j 0) → ⊥

-- r is the first place from a on, before b, with a value that has P
pub record FirstAt (xs : List ℕ) (P : ℕ → Type 0) (a b r : ℕ) : Type 0 where
  pub past : a ≤ r
  pub within : r < b
  pub none : NoneIn xs P a r
  pub here : P (get_or xs r 0)

-- the reply is that place; None where there is none
abbrev pub FirstWhere : List ℕ → (ℕ → Type 0) → ℕ → ℕ → Option ℕ → Type 0
FirstWhere xs P a b r = MatchOption r (NoneIn xs P a b) (FirstAt xs P a b)

-- r is the last place before k with a value that has P
pub record LastAt (xs : List ℕ) (P : ℕ → Type 0) (k r : ℕ) : Type 0 where
  pub within : r < k
  pub here : P (get_or xs r 0)
  pub after : NoneIn xs P (r + 1) k

-- the reply is that place; None where there is none
abbrev pub LastWhere : List ℕ → (ℕ → Type 0) → ℕ → Option ℕ → Type 0
LastWhere xs P k r = MatchOption r (NoneIn xs P 0 k) (LastAt xs P k)

-- what is looked for: an odd number of ones in common with a check
pub record Odd (check w : ℕ) : Type 0 where
  pub odd : parity check w ≡ 1

-- the last one at c
abbrev pub EndsAt : ℕ → ℕ → Type 0
EndsAt c w = Last w c

-- a one at n or beyond
pub record Beyond (n w : ℕ) : Type 0 where
  pub over : 2 ^ n ≤ w

-- a profile entry over 12
abbrev pub OverTwelve : ℕ → Type 0
OverTwelve s = 12 < s

-- ---- row operations

-- the digit is 1 where P holds, and 0 where not
pub record Tells (P : Type 0) (d : ℕ) : Type 0 where
  pub digit : (d ≡ 0) ⊎ (d ≡ 1)
  pub yes_is : d ≡ 1 → P
  pub no_is : d ≡ 0 → P → ⊥

-- row i gains row j where the digit is not 0
abbrev pub gain_row : List ℕ → ℕ → ℕ → ℕ → List ℕ
gain_row rows i j d = set rows i (bit_xor (get_or rows i 0) (taken d (get_or rows j 0)))

-- a row that was x is z: if x has P it has gained y, and else it is as it was
abbrev pub GainedRow : (ℕ → Type 0) → ℕ → ℕ → ℕ → Type 0
GainedRow P x y z = (P x × (z ≡ bit_xor x y)) ⊎ ((P x → ⊥) × (z ≡ x))

-- each of the rows a to b - 1 of t that has P gains row p: that is u
pub record Gained (t u : List ℕ) (P : ℕ → Type 0) (a b p : ℕ) : Type 0 where
  pub size : length u ≡ length t
  pub same : SameSums t u
  pub others : (m : ℕ) → (m < a) ⊎ (b ≤ m) → get_or u m 0 ≡ get_or t m 0
  pub rows : (m : ℕ) → a ≤ m → m < b → GainedRow P (get_or t m 0) (get_or t p 0) (get_or u m 0)
