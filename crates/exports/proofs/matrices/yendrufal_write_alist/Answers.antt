-- `exports::matrices::yendrufal_write_alist` meets its promise.
use borrow.Author.Rules.{rules}
use native.Mathlib.Omega.{arith}
use Rattle.exports.proofs.CallsMade.{misshaped}
use Rattle.exports.proofs.MatrixCrossed.{alist-not-written, alist-written}
use Rattle.exports.proofs.matrices.yendrufal_write_alist.Goals as goal

pub returns-then-written-lt1 : goal.returns-then-written-lt1
returns-then-written-lt1 c = misshaped (λ s. omega (arith, s.0))

pub returns-then-at-lt1 : goal.returns-then-at-lt1
returns-then-at-lt1 c = misshaped (λ s. omega (arith, s.1))

pub returns-in-Ok : goal.returns-in-Ok
returns-in-Ok c =
    alist-written _ _ _ (record { reply = c.write.result; room = _ }) (search rules) c.write.ensures c.in-Ok.is

pub returns-in-Err : goal.returns-in-Err
returns-in-Err c =
    alist-not-written _ _ _ (record { reply = c.write.result; room = _ }) (search rules) c.write.ensures
    c.in-Err.is c.refused_at.ensures
