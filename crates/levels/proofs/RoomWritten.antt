-- One more level in a room: those before it stay.
use Prim.Native.Nat.{ℕ, ◌+◌, ◌<◌}
use borrow.Author.Count.{below_more}
use lib.Ieee.{Float}
use lib.IntN.{ℤ, pos}
use lib.ListN.{get_or, length, set}
use lib.Seq.{get_or-set_other, get_or-set_same}
use mathlib.Core.List.{List}
use mathlib.Core.Path.{subst, sym}
use native.Mathlib.Nat.{ne_of_lt}
use Rattle.levels.specs.declared.Setting.{Setting}
use Rattle.levels.specs.Choosing.{LevelOfSample, sample_at}

module _ (setting : Setting) (values : List Float) (erased : ℕ) (room : List ℤ) (i : ℕ) (level : ℤ) where
  -- the level stored at i, after those before it
  pub one_more : i < length room → ((j : ℕ) → j < i → LevelOfSample setting (sample_at values erased j) (get_or room j (pos 0)))
      → LevelOfSample setting (sample_at values erased i) level
      → (j : ℕ) → j < i + 1 → LevelOfSample setting (sample_at values erased j) (get_or (set room i level) j (pos 0))
  one_more h before here =
      below_more (λ (j : ℕ). LevelOfSample setting (sample_at values erased j) (get_or (set room i level) j (pos 0))) i
      (λ j l. subst (LevelOfSample setting (sample_at values erased j)) (sym (get_or-set_other room i j level (pos 0) (ne_of_lt l))) (before j l))
      (subst (LevelOfSample setting (sample_at values erased i)) (sym (get_or-set_same room i level (pos 0) h)) here)
