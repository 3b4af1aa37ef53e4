-- The 32 states of a strip: what they ask, and what each stores and picks.
use Rattle.std.specs.Prelude.{nat_abs, pos, ◌+ℤ◌, ◌-ℤ◌, ℤ, get_or, length, set, Bool, cond, List, ◌⊎◌, ◌≡◌, ◌*◌, ◌+◌, ◌<◌, ◌^◌, ℕ, ◌≤◌}
use Rattle.decoding.specs.Choosing.{takes_second}
use Rattle.decoding.specs.declared.blocks.Picked.{Picked}
use Rattle.decoding.specs.declared.Counts.{Counts}
use Rattle.decoding.specs.Tables.{Weights}
use Rattle.words.specs.Word.{bit}

-- n metrics from `at` on are stored, f i at the i-th place, and no other
pub record Stored (metrics : List ℤ) (at : ℕ) (f : ℕ → ℤ) (n : ℕ) (metrics' : List ℤ) : Type 0 where
  pub size : length metrics' ≡ length metrics
  pub here : (i : ℕ) → i < n → get_or metrics' (at + i) (pos 0) ≡ f i
  pub others : (j : ℕ) → (j < at) ⊎ (at + n ≤ j) → get_or metrics' j (pos 0) ≡ get_or metrics j (pos 0)

-- ---- states that one branch leaves

-- what the strip asks: old metrics and signs that are small, and room
pub record Lone (metrics : List ℤ) (at : ℕ) (near signs : List ℤ) (side : ℕ) : Type 0 where
  pub room : at + 32 ≤ length metrics
  pub near_size : length near ≡ 32
  pub signs_size : length signs ≡ 64
  pub side_le : side ≤ 32
  pub near_small : (i : ℕ) → i < 32 → nat_abs (get_or near i (pos 0)) ≤ 2 ^ 27
  pub sign_small : (i : ℕ) → i < 64 → nat_abs (get_or signs i (pos 0)) ≤ 2 ^ 20

-- and room to count
pub record LonesFit (metrics : List ℤ) (at : ℕ) (near signs : List ℤ) (side : ℕ) (k : Counts) : Type 0 where
  pub strip : Lone metrics at near signs side
  pub additions : k.additions ≤ 2 ^ 42

-- the metric of state i
abbrev pub lone_metric : List ℤ → List ℤ → ℕ → ℕ → ℤ
lone_metric near signs side i = get_or signs (side + i) (pos 0) +ℤ get_or near i (pos 0)

-- what state i asks
pub record LoneFits (metrics : List ℤ) (at : ℕ) (near signs : List ℤ) (side i : ℕ) (k : Counts) : Type 0 where
  pub strip : Lone metrics at near signs side
  pub state : i < 32
  pub additions : k.additions < 2 ^ 62

-- state i is done
pub record LoneTaken (metrics : List ℤ) (at : ℕ) (near signs : List ℤ) (side i : ℕ) (k : Counts) (metrics' : List ℤ) (k' : Counts) : Type 0 where
  pub metric : metrics' ≡ set metrics (at + i) (lone_metric near signs side i)
  pub additions : k'.additions ≡ k.additions + 1
  pub comparisons : k'.comparisons ≡ k.comparisons

-- the first n are done
pub record Lones (metrics : List ℤ) (at : ℕ) (near signs : List ℤ) (side n : ℕ) (k : Counts) (metrics' : List ℤ) (k' : Counts) : Type 0 where
  pub stored : Stored metrics at (lone_metric near signs side) n metrics'
  pub additions : k'.additions ≡ k.additions + n
  pub comparisons : k'.comparisons ≡ k.comparisons

-- ---- states that two branches leave

-- what the strip asks besides
pub record Pair (metrics : List ℤ) (at : ℕ) (near far : List ℤ) (weights : List ℕ) (signs ties : List ℤ) (side : ℕ) : Type 0 where
  pub lone : Lone metrics at near signs side
  pub far_size : length far ≡ 32
  pub far_small : (i : ℕ) → i < 32 → nat_abs (get_or far i (pos 0)) ≤ 2 ^ 27
  pub ties_size : length ties ≡ 64
  pub tie_small : (i : ℕ) → i < 64 → nat_abs (get_or ties i (pos 0)) ≤ 1
  pub masks : Weights weights

-- and room to count
pub record PicksFit (metrics : List ℤ) (at : ℕ) (near far : List ℤ) (weights : List ℕ) (signs ties : List ℤ) (side : ℕ) (k : Counts) : Type 0 where
  pub strip : Pair metrics at near far weights signs ties side
  pub additions : k.additions ≤ 2 ^ 42
  pub comparisons : k.comparisons ≤ 2 ^ 42

-- whether state i takes its second branch, and its metric
abbrev pub picks_second : List ℤ → List ℤ → List ℤ → List ℤ → ℕ → ℕ → Bool
picks_second near far signs ties side i =
    takes_second (get_or near i (pos 0)) (get_or far i (pos 0)) (get_or signs (side + i) (pos 0)) (get_or ties (side + i) (pos 0))

abbrev pub pick_metric : List ℤ → List ℤ → List ℤ → List ℤ → ℕ → ℕ → ℤ
pick_metric near far signs ties side i =
    cond (picks_second near far signs ties side i) (get_or far i (pos 0) -ℤ get_or signs (side + i) (pos 0)) (lone_metric near signs side i)

-- what state i asks: the word has the states before it
pub record PickFits (metrics : List ℤ) (at : ℕ) (near far : List ℤ) (weights : List ℕ) (signs ties : List ℤ) (side i : ℕ) (p : Picked) : Type 0 where
  pub strip : Pair metrics at near far weights signs ties side
  pub state : i < 32
  pub short : p.word < 2 ^ i
  pub additions : p.counts.additions < 2 ^ 62
  pub comparisons : p.counts.comparisons < 2 ^ 62

-- state i is done: its weight is added where it takes its second branch
pub record PickTaken (metrics : List ℤ) (at : ℕ) (near far signs ties : List ℤ) (side i : ℕ) (p : Picked) (metrics' : List ℤ) (r : Picked) : Type 0 where
  pub metric : metrics' ≡ set metrics (at + i) (pick_metric near far signs ties side i)
  pub word : r.word ≡ p.word + cond (picks_second near far signs ties side i) (2 ^ i) 0
  pub additions : r.counts.additions ≡ p.counts.additions + 2
  pub comparisons : r.counts.comparisons ≡ p.counts.comparisons + 1

-- the first n are done
pub record Picks (metrics : List ℤ) (at : ℕ) (near far signs ties : List ℤ) (side n : ℕ) (k : Counts) (metrics' : List ℤ) (r : Picked) : Type 0 where
  pub stored : Stored metrics at (pick_metric near far signs ties side) n metrics'
  pub second : (i : ℕ) → i < n → bit r.word i ≡ cond (picks_second near far signs ties side i) 1 0
  pub short : r.word < 2 ^ n
  pub additions : r.counts.additions ≡ k.additions + n * 2
  pub comparisons : r.counts.comparisons ≡ k.comparisons + n
