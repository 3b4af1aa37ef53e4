-- `exports::sampling::yendrufal_level` meets its promise.
use borrow.Author.Rules.{rules}
use native.Mathlib.Omega.{arith}
use Rattle.exports.proofs.CallsMade.{misshaped, same_code}
use Rattle.exports.proofs.LevelsCrossed.{level-replied, level-written}
use Rattle.exports.proofs.sampling.yendrufal_level.Goals as goal

pub returns-then-level-lt1 : goal.returns-then-level-lt1
returns-then-level-lt1 c = misshaped (λ s. omega (arith, s))

pub returns-in-Ok : goal.returns-in-Ok
returns-in-Ok c =
    level-replied c.args.step c.narrowed.ensures (search rules) c.sample_of.ensures c.level_of.ensures c.in-Ok.is
    (level-written c.args.level.now _ (record { sfits = c.in-Ok.known_told-1-own.given.0.1 }))

pub returns-in-Err : goal.returns-in-Err
returns-in-Err c =
    level-replied c.args.step c.narrowed.ensures (search rules) c.sample_of.ensures c.level_of.ensures c.in-Err.is
    (same_code c.refusal_number.ensures)
