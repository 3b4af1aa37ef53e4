-- `exports::sampling::yendrufal_levels` meets its promise.
use borrow.Author.Rules.{rules}
use native.Mathlib.Omega.{arith}
use Rattle.exports.proofs.CallsMade.{misshaped}
use Rattle.exports.proofs.LevelsCrossed.{levels-given, levels-refused, levels-written}
use Rattle.exports.proofs.sampling.yendrufal_levels.Goals as goal

pub returns-then-at-lt1 : goal.returns-then-at-lt1
returns-then-at-lt1 c = misshaped (λ s. omega (arith, s))

pub returns-in-Ok : goal.returns-in-Ok
returns-in-Ok c =
    let a = c.args in
    levels-written a.n a.step a.top a.values.now a.erased _ _ c.levels_of.result (search rules)
    (levels-given a.step c.narrowed.ensures a.n a.values.now a.erased a.room.now _ c.levels_of.result
    c.levels_of.ensures)
    c.in-Ok.is

pub returns-in-Err : goal.returns-in-Err
returns-in-Err c =
    let a = c.args in
    levels-refused a.n a.step a.top a.values.now a.erased _ _ c.levels_of.result (search rules)
    (levels-given a.step c.narrowed.ensures a.n a.values.now a.erased a.room.now _ c.levels_of.result
    c.levels_of.ensures)
    c.in-Err.is c.refused_at.ensures
