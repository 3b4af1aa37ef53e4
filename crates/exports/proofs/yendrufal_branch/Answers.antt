-- `exports::yendrufal_branch` meets its promise.
use borrow.Author.Rules.{rules}
use mathlib.Core.Path.{refl}
use native.Mathlib.Omega.{arith}
use Rattle.exports.proofs.CallsMade.{misshaped, replied, same_code}
use Rattle.exports.proofs.yendrufal_branch.Goals as goal

pub returns-then-plate-lt132 : goal.returns-then-plate-lt132
returns-then-plate-lt132 c = misshaped (λ s. omega (arith, s.0))

pub returns-then-next-lt1 : goal.returns-then-next-lt1
returns-then-next-lt1 c = misshaped (λ s. omega (arith, s.1))

pub returns-in-Ok-Some : goal.returns-in-Ok-Some
returns-in-Ok-Some c =
    replied (search rules) c.branch_parts.result _ (rw c.parts_of.ensures at c.branch_parts.ensures)
    (rw c.in-Ok-Some.field-0-is at c.in-Ok-Some.is) refl

pub returns-in-Ok-None : goal.returns-in-Ok-None
returns-in-Ok-None c =
    replied (search rules) c.branch_parts.result _ (rw c.parts_of.ensures at c.branch_parts.ensures)
    (rw c.in-Ok-None.field-0-is at c.in-Ok-None.is) refl

pub returns-in-Err : goal.returns-in-Err
returns-in-Err c =
    replied (search rules) c.branch_parts.result _ (rw c.parts_of.ensures at c.branch_parts.ensures) c.in-Err.is
    (same_code c.refusal_number.ensures)
