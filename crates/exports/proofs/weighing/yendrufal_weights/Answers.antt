-- `exports::weighing::yendrufal_weights` meets its promise.
use borrow.Author.Rules.{rules}
use native.Mathlib.Omega.{arith}
use Rattle.exports.proofs.CallsMade.{misshaped}
use Rattle.exports.proofs.WeightsCrossed.{weights-least, weights-none, weights-refused}
use Rattle.exports.proofs.weighing.yendrufal_weights.Goals as goal

pub returns-then-plate-lt132 : goal.returns-then-plate-lt132
returns-then-plate-lt132 c = misshaped (λ s. omega (arith, s.0))

pub returns-then-least-lt1 : goal.returns-then-least-lt1
returns-then-least-lt1 c = misshaped (λ s. omega (arith, s.1))

pub returns-in-Ok-Some : goal.returns-in-Ok-Some
returns-in-Ok-Some c =
    weights-least c.args.plate.now _ _ _ c.count_weights_parts.result (search rules) (rw c.parts_of.ensures at c.count_weights_parts.ensures)
    (rw c.in-Ok-Some.field-0-is at c.in-Ok-Some.is)

pub returns-in-Ok-None : goal.returns-in-Ok-None
returns-in-Ok-None c =
    weights-none c.args.plate.now _ _ _ c.count_weights_parts.result (search rules) (rw c.parts_of.ensures at c.count_weights_parts.ensures)
    (rw c.in-Ok-None.field-0-is at c.in-Ok-None.is)

pub returns-in-Err : goal.returns-in-Err
returns-in-Err c =
    weights-refused c.args.plate.now _ _ _ c.count_weights_parts.result (search rules) (rw c.parts_of.ensures at c.count_weights_parts.ensures)
    c.in-Err.is c.refusal_number.ensures
