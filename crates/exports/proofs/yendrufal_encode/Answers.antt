-- `exports::yendrufal_encode` meets its promise.
use borrow.Author.Rules.{rules}
use mathlib.Core.Path.{refl}
use native.Mathlib.Omega.{arith}
use Rattle.exports.proofs.CallsMade.{misshaped, replied, same_code}
use Rattle.exports.proofs.yendrufal_encode.Goals as goal

pub returns-then-plate-lt132 : goal.returns-then-plate-lt132
returns-then-plate-lt132 c = misshaped (λ s. omega (arith, s.0))

pub returns-then-word-lt1 : goal.returns-then-word-lt1
returns-then-word-lt1 c = misshaped (λ s. omega (arith, s.1))

pub returns-in-Ok : goal.returns-in-Ok
returns-in-Ok c = replied (search rules) c.encode_parts.result _ (rw c.parts_of.ensures at c.encode_parts.ensures) c.in-Ok.is refl

pub returns-in-Err : goal.returns-in-Err
returns-in-Err c =
    replied (search rules) c.encode_parts.result _ (rw c.parts_of.ensures at c.encode_parts.ensures) c.in-Err.is
    (same_code c.refusal_number.ensures)
