-- The levels of a block, position by position.
use Rattle.std.proofs.Common.{Ok}
use Prim.Native.Nat.{ℕ, ◌<◌}
use lib.Ieee.{Float, nan}
use lib.IntN.{ℤ, pos}
use lib.ListN.{get_or, length}
use mathlib.Core.List.{List}
use mathlib.Core.Logic.{inl}
use mathlib.Core.Path.{◌≡◌, ap, refl, subst, ◌∙◌}
use native.Mathlib.Decide.{ℕ_discrete}
use native.Mathlib.Omega.{arith}
use Rattle.levels.specs.declared.Sample.{Sample}
use Rattle.levels.specs.declared.Setting.{Setting}
use Rattle.levels.specs.Choosing.{LevelOf, LevelOfSample, sample_of}
use Rattle.levels.specs.Giving.{GivesLevels}
use Rattle.plates.specs.declared.Refusal.TheVariants.{SampleCount}
use Rattle.words.specs.Word.{bit}

module _ (n : ℕ) (setting : Setting) (values : List Float) (erased : ℕ) (room room' : List ℤ) (given : GivesLevels n setting values erased room room' (Ok tt)) where
  -- n values and n levels
  pub values-n : length values ≡ n
  values-n = go (ℕ_discrete (length values) n)
    where
      go : Dec (length values ≡ n) → length values ≡ n
      go (yes e) = e
      go (no d) = absurd (given.0.1.1.0 SampleCount (inl d, refl))

  pub levels-n : length room' ≡ n
  levels-n = given.1.as_long ∙ values-n

  -- a heard position has the level of its value, an erased one level 0
  pub heard-level : (i : ℕ) → i < n → bit erased i ≡ 0 → LevelOf setting (get_or values i nan) (get_or room' i (pos 0))
  heard-level i h e =
      subst (λ (s : Sample). LevelOfSample setting s (get_or room' i (pos 0))) (ap (sample_of (get_or values i nan)) e) (given.1.each i (omega (arith, values-n)))

  pub erased-level : (i : ℕ) → i < n → bit erased i ≡ 1 → get_or room' i (pos 0) ≡ pos 0
  erased-level i h e =
      subst (λ (s : Sample). LevelOfSample setting s (get_or room' i (pos 0))) (ap (sample_of (get_or values i nan)) e) (given.1.each i (omega (arith, values-n)))
