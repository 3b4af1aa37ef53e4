-- The states of one decision word: what they ask, and what they do.
use Rattle.std.specs.Prelude.{ℤ, length, set, List, ◌≡◌, ◌*◌, ◌+◌, ◌^◌, ℕ, ◌≤◌}
use Rattle.decoding.specs.declared.Counts.{Counts}
use Rattle.decoding.specs.Patterns.{Pattern}
use Rattle.decoding.specs.Running.{Part, Ready}
use Rattle.trellises.specs.declared.Section.{Section}

-- what the n states of decision word `at` ask: the pattern of the first 64, and room to count
pub record BlockFits (metrics : List ℤ) (from to : ℕ) (c : Section) (y : ℤ) (w at n : ℕ) (k : Counts) : Type 0 where
  pub ready : Ready metrics from to c y
  pub word : n ≤ 64
  pub states : at * 64 + n ≤ 2 ^ c.live
  pub pattern : Pattern c.column w
  pub additions : k.additions ≤ 2 ^ 41
  pub comparisons : k.comparisons ≤ 2 ^ 41

-- they are done, and their word is stored where there is room for it
pub record Block (metrics : List ℤ) (from to : ℕ) (decisions : List ℕ) (c : Section) (y : ℤ) (at n : ℕ) (k : Counts)
    (metrics' : List ℤ) (decisions' : List ℕ) (k' : Counts) : Type 0 where
  pub word : ℕ
  pub part : Part metrics from to c y (at * 64) n k metrics' (record { word = word; counts = k' })
  pub stored : decisions' ≡ set decisions at word

-- the 64 states of a word are done so, and the rooms for old metrics are there still
pub record WordDone (metrics : List ℤ) (from to : ℕ) (decisions : List ℕ) (c : Section) (y : ℤ) (at : ℕ) (k : Counts)
    (metrics' : List ℤ) (decisions' : List ℕ) (near' far' : List ℤ) (k' : Counts) : Type 0 where
  pub block : Block metrics from to decisions c y at 64 k metrics' decisions' k'
  pub near_size : length near' ≡ 32
  pub far_size : length far' ≡ 32
