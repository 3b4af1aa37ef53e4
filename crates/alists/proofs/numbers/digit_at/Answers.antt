-- `numbers::digit_at` meets its contract.
use lib.ListN.{get_or}
use mathlib.Core.Path.{refl, sym, ◌∙◌}
use Rattle.alists.proofs.NumbersFound.{between}
use native.Mathlib.Omega.{arith}
use Rattle.alists.proofs.numbers.digit_at.Goals as goal
use Rattle.alists.proofs.numbers.digit_at.Goals.{then-at-text-via-then-at-text, then-at-text-via-else-at-text+then-not-is_ascii_digit}

pub returns-then-at-text : goal.returns-then-at-text
returns-then-at-text c =
    elim c.then-at-text.branch [
      | then-at-text-via-then-at-text w ↦ λ h. absurd (omega (arith, h, w.if-at-text.true))
      | then-at-text-via-else-at-text+then-not-is_ascii_digit w ↦ λ h. sym w.is_ascii_digit.ensures.value ∙ w.if-not-is_ascii_digit.true
    ]

pub returns : goal.returns
returns c =
    let d = sym c.is_ascii_digit.ensures.value ∙ c.if-not-is_ascii_digit.false in
    let b = between 48 57 (get_or c.args.text.now c.args.at 0) d in
    (omega arith, d, refl, omega (arith, b.0, b.1))
