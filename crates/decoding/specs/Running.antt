-- What the parts of a step ask and do: a source of metrics that no part writes, and some states one after the other.
use Rattle.std.specs.Prelude.{nat_abs, pos, ℤ, get_or, length, cond, List, ◌⊎◌, ◌≡◌, ◌*◌, ◌+◌, ◌<◌, ◌^◌, ℕ, ◌≤◌}
use Rattle.decoding.specs.declared.Counts.{Counts}
use Rattle.decoding.specs.declared.states.Run.{Run}
use Rattle.decoding.specs.Stepping.{SectionFits, olds}
use Rattle.decoding.specs.Taking.{at_state}
use Rattle.trellises.specs.declared.Section.{Section}
use Rattle.trellises.specs.Numbers.{bit_of, branch_count, leads_to}
use Rattle.words.specs.Word.{bit}

-- the digit that a section's branches lose; where no row ends, one past all their digits
abbrev pub place_of : Section → ℕ
place_of c = cond c.ends c.ending 13

-- a branch leads to a metric that is there
pub record SourceFits (from : ℕ) (c : Section) (x : ℕ) : Type 0 where
  pub section : SectionFits c
  pub branch : x < branch_count c
  pub place : from + leads_to c x < 2 ^ 62

-- every branch leads to a metric that is there, is small and stands apart from the new ones, which have their room
pub record Ready (metrics : List ℤ) (from to : ℕ) (c : Section) (y : ℤ) : Type 0 where
  pub section : SectionFits c
  pub gain : nat_abs y ≤ 2 ^ 20
  pub place : (x : ℕ) → x < branch_count c → from + leads_to c x < length metrics
  pub small : (x : ℕ) → x < branch_count c → nat_abs (olds metrics from (leads_to c x)) ≤ 2 ^ 27
  pub apart : (x : ℕ) → x < branch_count c → (from + leads_to c x < to) ⊎ (to + 2 ^ c.live ≤ from + leads_to c x)
  pub room : to + 2 ^ c.live ≤ length metrics

-- what one state asks: its bit, and room to count
pub record StateFits (metrics : List ℤ) (from to : ℕ) (c : Section) (y : ℤ) (p i : ℕ) (k : Counts) : Type 0 where
  pub ready : Ready metrics from to c y
  pub state : i < 2 ^ c.live
  pub parity : p ≡ bit_of c i
  pub additions : k.additions < 2 ^ 62
  pub comparisons : k.comparisons < 2 ^ 62

-- what n states from lo on ask: their bits in a pattern word, and room to count
pub record RunFits (metrics : List ℤ) (from to : ℕ) (c : Section) (y : ℤ) (w lo n : ℕ) (k : Counts) : Type 0 where
  pub ready : Ready metrics from to c y
  pub word : n ≤ 64
  pub states : lo + n ≤ 2 ^ c.live
  pub pattern : (i : ℕ) → i < n → bit w i ≡ bit_of c (lo + i)
  pub additions : k.additions ≤ 2 ^ 41
  pub comparisons : k.comparisons ≤ 2 ^ 41

-- branches added and comparisons made at each state of a section
abbrev pub adds_of : Section → ℕ
adds_of c = cond c.begins 2 1

abbrev pub compares_of : Section → ℕ
compares_of c = cond c.begins 1 0

-- n states from lo on are done: each one's metric and decision, and what they counted on top of k
pub record Part (metrics : List ℤ) (from to : ℕ) (c : Section) (y : ℤ) (lo n : ℕ) (k : Counts) (metrics' : List ℤ) (r : Run) : Type 0 where
  pub size : length metrics' ≡ length metrics
  pub metric : (i : ℕ) → i < n → olds metrics' to (lo + i) ≡ (at_state c y (olds metrics from) (lo + i)).metric
  pub others : (j : ℕ) → (j < to + lo) ⊎ (to + (lo + n) ≤ j) → get_or metrics' j (pos 0) ≡ get_or metrics j (pos 0)
  pub decision : (i : ℕ) → i < n → bit r.word i ≡ (at_state c y (olds metrics from) (lo + i)).bit
  pub short : r.word < 2 ^ n
  pub additions : r.counts.additions ≡ k.additions + n * adds_of c
  pub comparisons : r.counts.comparisons ≡ k.comparisons + n * compares_of c
