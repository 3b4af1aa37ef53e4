-- What the tests of a setting and of a sample find.
use Prim.Native.Nat.{ℕ, zero, suc, ◌≤◌}
use borrow.Author.Tests.{leb-false, leb-true}
use lib.Dec.{T, leb}
use lib.Ieee.{Float, fin, inf, lt, nan}
use lib.Ieee.Scale.{finite}
use mathlib.Core.Bool.{Bool, true, false, true≢false}
use mathlib.Core.Path.{◌≡◌, refl, subst, sym, ◌∙◌}
use native.Mathlib.Omega.{arith}
use Rattle.std.specs.Float.{float_is_finite}
use Rattle.levels.specs.declared.Sample.TheVariants.{Erased}
use Rattle.levels.specs.declared.Setting.{Setting}
use Rattle.levels.specs.Choosing.{nought, sample_of, times}
use Rattle.levels.specs.Giving.{Good}
use Rattle.levels.specs.Testing.{TestsSetting}

-- a test that found true, and one that found false
pub found : {a b : Bool} → a ≡ b → a ≡ true → T b
found e t = subst T (sym t ∙ e) tt

pub not_found : {a b : Bool} → a ≡ b → a ≡ false → T b → ⊥
not_found e f t = subst T (sym e ∙ f) t

-- a setting that a test shuts out
pub not_good : {setting : Setting} → (Good setting → ⊥) → TestsSetting setting false
not_good n = record { yes_is = λ e. absurd (true≢false (sym e)); no_is = λ e. n }

-- the last test, of the greatest top level
pub good-if : {setting : Setting} → T (finite setting.step) → T (finite (times setting.top setting.step)) → T (lt nought setting.step) → 1 ≤ setting.top
    → TestsSetting setting (leb setting.top 127)
good-if {setting} step top above least =
    record {
      yes_is = λ e. record { step_finite = step; top_finite = top; above_zero = above; least = least; most = leb-true setting.top 127 e };
      no_is = λ e g. omega (arith, leb-false setting.top 127 e, g.most);
    }

-- a mark that is not 0
pub erased-is : (value : Float) (mark : ℕ) → (mark ≡ 0 → ⊥) → Erased ≡ sample_of value mark
erased-is value zero h = absurd (h refl)
erased-is value (suc mark) h = refl

-- what the library's test says
pub is-finite : (x : Float) → float_is_finite x ≡ finite x
unfolding float_is_finite
is-finite nan = refl
is-finite (inf s) = refl
is-finite (fin s m e) = refl

-- what the test of a step says, either way
pub above : (step : Float) → lt nought step ≡ true → T (lt nought step)
above step e = subst T (sym e) tt

pub not-above : (step : Float) → lt nought step ≡ false → T (lt nought step) → ⊥
not-above step e t = subst T e t
