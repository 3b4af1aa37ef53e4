-- A strip of 32 states, and the two strips of a decision word: what they ask, and what they do.
use Rattle.std.specs.Prelude.{ℤ, length, List, ◌≡◌, ◌*◌, ◌+◌, ◌<◌, ◌^◌, ℕ, ◌≤◌}
use Rattle.decoding.specs.declared.Counts.{Counts}
use Rattle.decoding.specs.declared.states.Run.{Run}
use Rattle.decoding.specs.Running.{Part, Ready}
use Rattle.decoding.specs.Tables.{Tables, Weights}
use Rattle.trellises.specs.declared.Section.{Section}
use Rattle.trellises.specs.Numbers.{bit_of}
use Rattle.words.specs.Parity.{parity}
use Rattle.words.specs.Word.{bit}

-- the tables are those of the section's first 32 states, and the rooms for old metrics are there
pub record BlockReady (c : Section) (y : ℤ) (weights : List ℕ) (signs ties near far : List ℤ) : Type 0 where
  pub wide : 6 ≤ c.live
  pub masks : Weights weights
  pub word : ℕ
  pub pattern : (i : ℕ) → i < 32 → bit word i ≡ parity i c.column
  pub tables : Tables word y signs ties
  pub near_size : length near ≡ 32
  pub far_size : length far ≡ 32

-- what n states from `first` on ask, whose bits are the lowest of w: n is 32 or 64
pub record StripFits (metrics : List ℤ) (from to : ℕ) (c : Section) (y : ℤ) (weights : List ℕ) (signs ties : List ℤ) (w first n : ℕ)
    (near far : List ℤ) (k : Counts) : Type 0 where
  pub prepared : BlockReady c y weights signs ties near far
  pub ready : Ready metrics from to c y
  pub strip : ℕ
  pub aligned : first ≡ strip * 32
  pub states : first + n ≤ 2 ^ c.live
  pub bits : (i : ℕ) → i < n → bit w i ≡ bit_of c (first + i)
  pub additions : k.additions + 4 * n ≤ 2 ^ 42
  pub comparisons : k.comparisons + 4 * n ≤ 2 ^ 42

-- they are done, and the rooms for old metrics are there still
pub record StripDone (metrics : List ℤ) (from to : ℕ) (c : Section) (y : ℤ) (first n : ℕ) (k : Counts) (metrics' near' far' : List ℤ) (r : Run) : Type 0 where
  pub part : Part metrics from to c y first n k metrics' r
  pub near_size : length near' ≡ 32
  pub far_size : length far' ≡ 32
