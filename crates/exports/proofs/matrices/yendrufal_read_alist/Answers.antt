-- `exports::matrices::yendrufal_read_alist` meets its promise.
use borrow.Author.Rules.{rules}
use mathlib.Core.Path.{sym}
use native.Mathlib.Omega.{arith}
use Rattle.exports.proofs.CallsMade.{misshaped}
use Rattle.exports.proofs.MatrixCrossed.{matrix-not-read, matrix-read, table-length}
use Rattle.exports.proofs.matrices.yendrufal_read_alist.Goals as goal

pub returns-then-sizes-lt2 : goal.returns-then-sizes-lt2
returns-then-sizes-lt2 c = misshaped (λ s. omega (arith, s.0))

pub returns-then-rows-lt64 : goal.returns-then-rows-lt64
returns-then-rows-lt64 c = misshaped (λ s. omega (arith, s.1))

pub returns-then-at-lt1 : goal.returns-then-at-lt1
returns-then-at-lt1 c = misshaped (λ s. omega (arith, s.2))

pub slice_bounds-put_table-end : goal.slice_bounds-put_table-end
slice_bounds-put_table-end c = sym (table-length c.args.text.now c.read.ensures)

pub put_table-requires : goal.put_table-requires
put_table-requires c = omega (arith, table-length c.args.text.now c.read.ensures, c.if-rows-lt64.false)

pub returns-in-Ok : goal.returns-in-Ok
returns-in-Ok c =
    matrix-read _ _ (record { reply = c.read.result; table = _ }) (search rules) c.read.ensures c.in-Ok.is
    c.put_table.ensures

pub returns-in-Err : goal.returns-in-Err
returns-in-Err c =
    matrix-not-read _ _ (record { reply = c.read.result; table = _ }) (search rules) c.read.ensures
    c.in-Err.is c.refused_at.ensures
