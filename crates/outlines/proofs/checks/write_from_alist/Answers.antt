-- `checks::write_from_alist` meets its contract.
use Rattle.std.proofs.lemmas.Result.{err_from_is_err_and}
use native.Mathlib.Omega.{arith}
use Rattle.outlines.proofs.MatricesGiven.{fault-told, input-too-long, matrix-few, matrix-given, matrix-short, matrix-there}
use Rattle.outlines.proofs.checks.write_from_alist.Goals as goal

pub returns-then-input-gt32768 : goal.returns-then-input-gt32768
returns-then-input-gt32768 c = search input-too-long

pub put_matrix-requires : goal.put_matrix-requires
put_matrix-requires c =
    let input = c.args.input.now in
    record {
      n_bound = matrix-short input c.read.ensures c.in_ok-matrix.was;
      count_bound = matrix-few input c.read.ensures c.in_ok-matrix.was;
      count_in_bounds = matrix-there input c.read.ensures c.in_ok-matrix.was;
    }

pub returns-in_err-matrix : goal.returns-in_err-matrix
returns-in_err-matrix c =
    let p = err_from_is_err_and c.from_residual.result c.from_residual.ensures.1 in rw (p.1, p.2) (fault-told c.args.input.now c.read.ensures (omega (arith, c.if-input-gt32768.false)) c.in_err-matrix.was)

pub returns : goal.returns
returns c = matrix-given c.args.input.now c.read.ensures (omega (arith, c.if-input-gt32768.false)) c.in_ok-matrix.was c.put_matrix.ensures
