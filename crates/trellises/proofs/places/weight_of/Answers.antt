-- `trellises::places::weight_of` meets its contract.
use lib.Pow.{pow-lt}
use mathlib.Core.Path.{◌∙◌, ap, refl}
use native.Mathlib.Nat.{mod-eq_of_lt, one-mul}
use native.Mathlib.Omega.{arith}
use Prim.Native.Nat.{ℕ, ◌%◌, ◌^◌}
use Rattle.trellises.proofs.places.weight_of.Goals as goal

pub returns-then-place-ge64 : goal.returns-then-place-ge64
returns-then-place-ge64 c = record { below = λ h. absurd (omega arith); beyond = λ h. refl }

pub returns : goal.returns
returns c = record {
  below = λ h. ap (λ (x : ℕ). x % 2 ^ 64) (one-mul (2 ^ c.args.place)) ∙ mod-eq_of_lt (pow-lt h);
  beyond = λ h. absurd (omega arith);
}
