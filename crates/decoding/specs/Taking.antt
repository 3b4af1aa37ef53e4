-- A section taken branch by branch, from the far end towards the start: at each state the branches that leave it are added one after
-- the other, and each after the first is compared.
use Rattle.std.specs.Prelude.{ℕ, zero, suc, ◌+◌, ◌^◌, eqb, ℤ, ◌+ℤ◌, neg_ℤ, Bool, cond, not}
use Rattle.std.specs.Int.Signed.{lt_z}
use Rattle.trellises.specs.declared.Section.{Section}
use Rattle.trellises.specs.Numbers.{bit_of, leads_to}
use Rattle.decoding.specs.declared.Counts.{Counts}

-- what a bit adds to a metric: the sample for 0, and its negation for 1
abbrev pub signed : ℕ → ℤ → ℤ
signed zero y = y
signed (suc d) y = neg_ℤ y

-- the best of a state's branches so far, and what was counted on the way
pub record Taken : Type 0 where
  pub metric : ℤ
  pub bit : ℕ
  pub additions : ℕ
  pub comparisons : ℕ

-- whether a branch with metric m and bit b is preferred to what stands at metric o, with the other bit: the greater, and of equals bit 0
abbrev pub preferred : ℤ → ℕ → ℤ → Bool
preferred m b o = cond (eqb b 0) (not (lt_z m o)) (lt_z o m)

-- `old` has the best metric of a way to the end from each state of the next depth
module _ (c : Section) (y : ℤ) (old : ℕ → ℤ) where
  -- branch x added: what its bit adds, and the best from where it leads
  abbrev pub added : ℕ → ℤ
  added x = signed (bit_of c x) y +ℤ old (leads_to c x)

  -- the first branch
  abbrev pub taking : ℕ → Taken
  taking x = record { metric = added x; bit = bit_of c x; additions = 1; comparisons = 0 }

  -- a further branch, added and compared
  abbrev pub taking_also : Taken → ℕ → Taken
  taking_also s x = record {
    metric = cond (preferred (added x) (bit_of c x) s.metric) (added x) s.metric;
    bit = cond (preferred (added x) (bit_of c x) s.metric) (bit_of c x) s.bit;
    additions = s.additions + 1;
    comparisons = s.comparisons + 1;
  }

  -- state i: the branch that takes no beginning row and, where a row begins, the one that takes it
  abbrev pub at_state : ℕ → Taken
  at_state i = cond c.begins (taking_also (taking i) (i + 2 ^ c.live)) (taking i)

  -- what the first n states counted, one after the other, on top of k
  abbrev pub counting : ℕ → Counts → Counts
  counting zero k = k
  counting (suc n) k = record {
    additions = (counting n k).additions + (at_state n).additions;
    comparisons = (counting n k).comparisons + (at_state n).comparisons;
  }
