-- What is asked of and done with the branches of one state.
use Rattle.std.specs.Prelude.{nat_abs, ◌+ℤ◌, ◌-ℤ◌, ℤ, Bool, cond, ◌≡◌, ◌+◌, ◌<◌, ◌^◌, ◌≤◌}
use Rattle.std.specs.Int.Signed.{lt_z}
use Rattle.decoding.specs.declared.Counts.{Counts}
use Rattle.decoding.specs.declared.choices.Choice.{Choice}

-- whether the second of two branches is taken: a and b are the metrics where they lead, q is what the first one's bit adds, and t
-- breaks the tie
abbrev pub takes_second : ℤ → ℤ → ℤ → ℤ → Bool
takes_second a b q t = lt_z (q +ℤ a) ((b -ℤ q) +ℤ t)

-- no sum of one branch overflows
pub record AloneFits (a q : ℤ) (k : Counts) : Type 0 where
  pub near : nat_abs a ≤ 2 ^ 27
  pub sign : nat_abs q ≤ 2 ^ 20
  pub additions : k.additions < 2 ^ 62

-- no sum of two branches overflows
pub record ChoiceFits (a b q t : ℤ) (k : Counts) : Type 0 where
  pub near : nat_abs a ≤ 2 ^ 27
  pub far : nat_abs b ≤ 2 ^ 27
  pub sign : nat_abs q ≤ 2 ^ 20
  pub tie : nat_abs t ≤ 1
  pub additions : k.additions < 2 ^ 62
  pub comparisons : k.comparisons < 2 ^ 62

-- one branch added
pub record AloneTaken (a q : ℤ) (k : Counts) (r : Choice) : Type 0 where
  pub metric : r.metric ≡ q +ℤ a
  pub additions : r.counts.additions ≡ k.additions + 1
  pub comparisons : r.counts.comparisons ≡ k.comparisons

-- two branches added, and compared
pub record Chosen (a b q t : ℤ) (k : Counts) (r : Choice) : Type 0 where
  pub metric : r.metric ≡ cond (takes_second a b q t) (b -ℤ q) (q +ℤ a)
  pub second : r.second ≡ cond (takes_second a b q t) 1 0
  pub additions : r.counts.additions ≡ k.additions + 2
  pub comparisons : r.counts.comparisons ≡ k.comparisons + 1
