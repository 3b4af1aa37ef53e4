-- The level of a value from the largest level that it, or its negation, reaches; a level fits a signed 16-bit number.
use Prim.Native.Nat.{ℕ, zero, suc, ◌≤◌}
use lib.Dec.{T}
use lib.Ieee.{Float, le, lt, neg}
use lib.IntN.{pos, neg_ℤ}
use mathlib.Core.Path.{refl}
use mir.Syntax.{w16}
use mir.Val.{SFits}
use native.Mathlib.Omega.{arith}
use Rattle.levels.proofs.FloatOrder.{never-both-signs}
use Rattle.levels.specs.declared.Setting.{Setting}
use Rattle.levels.specs.Choosing.{Largest, LevelOf, nought}
use Rattle.levels.specs.Giving.{Good}

-- minus a level
pub negative_fits : (j : ℕ) → j ≤ 127 → SFits w16 (neg_ℤ (pos j))
negative_fits zero h = record { sfits = omega arith }
negative_fits (suc j) h = record { sfits = omega arith }

module _ {setting : Setting} where
  -- a level is at most 127
  pub level-small : {value : Float} {j : ℕ} → Good setting → Largest setting value j → j ≤ 127
  level-small good l = omega (arith, good.most, l.within)

  -- of a value of zero or more
  pub more-level : (value : Float) {j : ℕ} → T (le nought value) → Largest setting value j → LevelOf setting value (pos j)
  more-level value {j} m l =
      record { size = j; zero_or_more = λ h. (l, refl); negative = λ h. absurd (never-both-signs value h m) }

  -- of a negative value
  pub less-level : (value : Float) {j : ℕ} → T (lt value nought) → Largest setting (neg value) j → LevelOf setting value (neg_ℤ (pos j))
  less-level value {j} m l =
      record { size = j; zero_or_more = λ h. absurd (never-both-signs value m h); negative = λ h. (l, refl) }
