-- `exports::yendrufal_prepare` meets its promise.
use borrow.Author.Rules.{rules}
use Rattle.exports.proofs.CallsMade.{crossed-accepted, crossed-refused, misshaped, replied}
use mathlib.Core.Path.{refl, subst}
use native.Mathlib.Omega.{arith}
use Rattle.plates.specs.declared.Kind.{Kind}
use Rattle.plates.specs.Prepare.{Prepares}
use Rattle.exports.proofs.yendrufal_prepare.Goals as goal

pub returns-then-kind-gt1 : goal.returns-then-kind-gt1
returns-then-kind-gt1 c = misshaped (λ s. omega (arith, s.0))

pub returns-then-plate-lt132 : goal.returns-then-plate-lt132
returns-then-plate-lt132 c = misshaped (λ s. omega (arith, s.1))

pub returns-then-at-lt1 : goal.returns-then-at-lt1
returns-then-at-lt1 c = misshaped (λ s. omega (arith, s.2))

pub returns-in-Ok : goal.returns-in-Ok
returns-in-Ok c =
    let made = c.prepare-made.result in
    replied (search rules) made made
    (subst (λ (k : Kind). Prepares c.args.n k c.args.rows.now c.args.mask made)
    c.kind_of.ensures c.prepare-made.ensures)
    refl
    (crossed-accepted c.args.plate.now c.args.at.now made.plate
    c.in-Ok.is c.put_plate.ensures)

pub returns-in-Err : goal.returns-in-Err
returns-in-Err c =
    let made = c.prepare-made.result in
    replied (search rules) made made
    (subst (λ (k : Kind). Prepares c.args.n k c.args.rows.now c.args.mask made)
    c.kind_of.ensures c.prepare-made.ensures)
    refl
    (crossed-refused c.args.plate.now c.args.at.now made.plate
    c.in-Err.is c.refused_at.ensures)
