-- `levels::choosing::raised` meets its contract.
use lib.Ieee.{Float, le}
use mathlib.Core.Logic.{inl, inr}
use mathlib.Core.Path.{ap, refl}
use native.Mathlib.Omega.{arith}
use Rattle.levels.proofs.Tests.{found, not_found}
use Rattle.levels.proofs.choosing.raised.Goals as goal

pub returns-then-setting-higher : goal.returns-then-setting-higher
returns-then-setting-higher c = inl (refl, λ h r. omega (arith, c.if-setting-higher.true, h))

pub returns-then-times_step-value : goal.returns-then-times_step-value
returns-then-times_step-value c =
    inr (refl, omega (arith, c.if-setting-higher.false), found (ap (λ (x : Float). le x c.args.value) c.times_step.ensures) c.if-times_step-value.true)

pub returns : goal.returns
returns c =
    inl (refl, λ h. not_found (ap (λ (x : Float). le x c.args.value) c.times_step.ensures) c.if-times_step-value.false)
