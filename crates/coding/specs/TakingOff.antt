-- Rows taken off a word, one after the other.
use Rattle.std.specs.Prelude.{ℕ, ◌+◌, ◌*◌, ◌^◌, ◌≤◌, ◌<◌, length, get_or, take, List, Bool, true, false, ◌≡◌}
use Rattle.std.specs.Int.Bits.{bit_xor}
use Rattle.words.specs.Ends.{firsts}
use Rattle.words.specs.Span.{First}
use Rattle.words.specs.Sum.{sum_of, taken}
use Rattle.words.specs.Word.{bit}
use Rattle.coding.specs.declared.Reading.{Reading}

-- the first k rows of a table are words with rising first ones
pub record Headed (rows : List ℕ) (k : ℕ) : Type 0 where
  pub table : length rows ≡ 64
  pub few : k ≤ 64
  pub head : (j : ℕ) → j < k → First (get_or rows j 0) (firsts rows j)
  pub rising : (i j : ℕ) → i < j → j < k → firsts rows i < firsts rows j

-- the rows before j are taken off: the word is the sum of those that the information takes and the rest, which has 0 at their heads
pub record Read (rows : List ℕ) (k word j : ℕ) (r : Reading) : Type 0 where
  pub short : r.information < 2 ^ j
  pub together : bit_xor (sum_of (take k rows) r.information) r.rest ≡ word
  pub cleared : (i : ℕ) → i < j → bit r.rest (firsts rows i) ≡ 0

-- one more row, for head p, is taken off where the rest has a one there
pub record ReadOn (a : Reading) (row j : ℕ) (r : Reading) : Type 0 where
  pub digit : ℕ
  pub at_head : (p : ℕ) → First row p → digit ≡ bit a.rest p
  pub information : r.information ≡ a.information + digit * 2 ^ j
  pub rest : r.rest ≡ bit_xor (taken digit row) a.rest

-- r says whether a word has a one at k or beyond
pub record Reaches (word k : ℕ) (r : Bool) : Type 0 where
  pub yes_is : r ≡ true → 2 ^ k ≤ word
  pub no_is : r ≡ false → word < 2 ^ k
