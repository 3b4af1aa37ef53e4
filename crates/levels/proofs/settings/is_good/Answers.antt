-- `levels::settings::is_good` meets its contract.
use lib.Ieee.{of_bits}
use lib.Ieee.Scale.{finite}
use mathlib.Core.Path.{◌∙◌, ap}
use native.Mathlib.Omega.{arith}
use Rattle.levels.proofs.Tests.{above, found, good-if, is-finite, not-above, not_found, not_good}
use Rattle.levels.proofs.settings.is_good.Goals as goal

pub returns-then-not-is_finite : goal.returns-then-not-is_finite
returns-then-not-is_finite c = not_good (λ g. not_found (c.is_finite.ensures.value ∙ is-finite _) c.if-not-is_finite.true g.step_finite)

pub returns-then-not-is_finite-2 : goal.returns-then-not-is_finite-2
returns-then-not-is_finite-2 c =
    not_good (λ g. not_found (c.is_finite-2.ensures.value ∙ is-finite _ ∙ ap finite c.times_step.ensures) c.if-not-is_finite-2.true g.top_finite)

pub returns-then-not-setting : goal.returns-then-not-setting
unfolding of_bits
returns-then-not-setting c = not_good (λ g. not-above _ c.if-not-setting.true g.above_zero)

pub returns-then-setting-eq0 : goal.returns-then-setting-eq0
returns-then-setting-eq0 c = not_good (λ g. omega (arith, c.if-setting-eq0.true, g.least))

pub returns : goal.returns
unfolding of_bits
returns c =
    good-if (found (c.is_finite.ensures.value ∙ is-finite _) c.if-not-is_finite.false)
    (found (c.is_finite-2.ensures.value ∙ is-finite _ ∙ ap finite c.times_step.ensures) c.if-not-is_finite-2.false)
    (above _ c.if-not-setting.false)
    (omega (arith, c.if-setting-eq0.false))
