-- What one step asks and does: a section over the metrics, the decisions where wanted, and two counters.
use Rattle.std.specs.Prelude.{ℕ, ◌+◌, ◌*◌, ◌/◌, ◌%◌, ◌^◌, ◌≤◌, ◌<◌, ℤ, pos, nat_abs, length, get_or, true, List, ◌⊎◌, ◌≡◌}
use Rattle.words.specs.Word.{bit}
use Rattle.trellises.specs.declared.Section.{Section}
use Rattle.trellises.specs.Numbers.{branch_count, leads_to}
use Rattle.decoding.specs.declared.Counts.{Counts}
use Rattle.decoding.specs.Taking.{at_state, counting}

-- the gains with which a section may be taken
abbrev pub gain_limit : ℕ
gain_limit = 2 ^ 20

-- the metrics of the next depth, which begin at `from`
abbrev pub olds : List ℤ → ℕ → ℕ → ℤ
olds metrics from i = get_or metrics (from + i) (pos 0)

-- a section's numbers fit: at most 4,096 states, and a row that begins has a one here
pub record SectionFits (c : Section) : Type 0 where
  pub narrow : c.live ≤ 12
  pub ending : c.ends ≡ true → c.ending ≤ c.live
  pub column : c.column < 2 ^ 13
  pub begun : c.begins ≡ true → bit c.column c.live ≡ 1

-- what a step asks: the old metrics, `next` of them, begin at `from`, the new ones at `to`, the two lie apart in the room, and no sum
-- can overflow; there is one decision bit a state, or no decision room at all
pub record StepFits (metrics : List ℤ) (from to : ℕ) (decisions : List ℕ) (c : Section) (y : ℤ) (k : Counts) : Type 0 where
  pub section : SectionFits c
  pub next : ℕ
  pub leads : (x : ℕ) → x < branch_count c → leads_to c x < next
  pub apart : (from + next ≤ to) ⊎ (to + 2 ^ c.live ≤ from)
  pub old_room : from + next ≤ length metrics
  pub new_room : to + 2 ^ c.live ≤ length metrics
  pub gain : nat_abs y ≤ gain_limit
  pub small : (i : ℕ) → i < next → nat_abs (olds metrics from i) ≤ 2 ^ 27
  pub wanted : (length decisions ≡ 0) ⊎ (2 ^ c.live ≤ length decisions * 64)
  pub additions : k.additions ≤ 2 ^ 40
  pub comparisons : k.comparisons ≤ 2 ^ 40

-- what a step does: each state's metric, its decision where wanted, and each branch and each comparison counted
pub record Stepped (metrics : List ℤ) (from to : ℕ) (decisions : List ℕ) (c : Section) (y : ℤ) (k : Counts)
    (metrics' : List ℤ) (decisions' : List ℕ) (k' : Counts) : Type 0 where
  pub size : length metrics' ≡ length metrics
  pub metric : (i : ℕ) → i < 2 ^ c.live → olds metrics' to i ≡ (at_state c y (olds metrics from) i).metric
  pub others : (i : ℕ) → (i < to) ⊎ (to + 2 ^ c.live ≤ i) → get_or metrics' i (pos 0) ≡ get_or metrics i (pos 0)
  pub words : length decisions' ≡ length decisions
  pub decision : 0 < length decisions → (i : ℕ) → i < 2 ^ c.live
      → bit (get_or decisions' (i / 64) 0) (i % 64) ≡ (at_state c y (olds metrics from) i).bit
  pub counts : k' ≡ counting c y (olds metrics from) (2 ^ c.live) k
