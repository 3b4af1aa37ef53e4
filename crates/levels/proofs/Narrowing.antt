-- The span in which a level lies, halved until it is one level.
use Prim.Native.Nat.{ℕ, ◌+◌, ◌≤◌}
use lib.Dec.{T, lit≤}
use lib.Ieee.{Float, le}
use lib.Ieee.Positive.{positive}
use mathlib.Core.Logic.{inl, inr}
use mathlib.Core.Path.{subst, sym}
use native.Mathlib.Nat as N
use native.Mathlib.Omega.{arith}
use Rattle.levels.proofs.FloatOrder.{le_trans}
use Rattle.levels.proofs.Products.{step-positive, times-grows, times-nought}
use Rattle.levels.specs.declared.Setting.{Setting}
use Rattle.levels.specs.Choosing.{Largest, Reached, nought, times}
use Rattle.levels.specs.Giving.{Good}
use Rattle.levels.specs.Testing.{Raised, Within}

-- a step that is permitted is finite and above zero
pub good-positive : {setting : Setting} → Good setting → T (positive setting.step)
good-positive {setting} good = step-positive setting.step good.step_finite good.above_zero

module _ (setting : Setting) (value : Float) (good : Good setting) where
  -- what reaches a level reaches every lower one
  pub reaches-lower : (i j : ℕ) → i ≤ j → j ≤ setting.top → Reached setting value j → Reached setting value i
  reaches-lower i j h k r =
      le_trans (times i setting.step) (times j setting.step) value
      (times-grows i j setting.step h (N.le_trans k (N.le_trans good.most (lit≤ tt))) (good-positive good)) r

  -- level 0 is reached, and no level is 128 or more
  pub within-start : T (le nought value) → Within setting value 0 128
  within-start more =
      record {
        permitted = omega arith;
        reached = subst (λ (x : Float). T (le x value)) (sym (times-nought setting.step (good-positive good))) more;
        beyond = λ i h k r. omega (arith, h, k, good.most);
      }

  -- one test in the middle halves the span
  pub within-half : (level span half r : ℕ) → span ≤ half + half → Raised setting value level half r → Within setting value level span → Within setting value r half
  within-half level span half r h (inl (e, never)) w =
      subst (λ (x : ℕ). Within setting value x half) (sym e)
      (record {
        permitted = w.permitted;
        reached = w.reached;
        beyond = λ i l k x. never (N.le_trans l k) (reaches-lower (level + half) i l k x);
      })
  within-half level span half r h (inr (e, k, x)) w =
      subst (λ (y : ℕ). Within setting value y half) (sym e)
      (record {
        permitted = k;
        reached = x;
        beyond = λ i l m. w.beyond i (omega arith) m;
      })

  -- a span of one level is the level
  pub within_end : (level span : ℕ) → span ≤ 1 → Within setting value level span → Largest setting value level
  within_end level span h w =
      record { within = w.permitted; reached = w.reached; largest = λ i l k. w.beyond i (omega arith) k }
