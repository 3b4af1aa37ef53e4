-- `checks::write_checks` meets its contract.
use Rattle.std.proofs.lemmas.Result.{err_from_is_err_and}
use Rattle.outlines.proofs.ChecksWritten.{checks-given, checks-refused, plate-prepared, rows-counted}
use Rattle.outlines.proofs.checks.write_checks.Goals as goal

pub slice_bounds-put_checks-end : goal.slice_bounds-put_checks-end
slice_bounds-put_checks-end c = search rows-counted

pub put_checks-requires : goal.put_checks-requires
put_checks-requires c = plate-prepared c.prepared_of-dual.ensures c.in_ok-dual.was

pub returns-in_err-dual : goal.returns-in_err-dual
returns-in_err-dual c = let p = err_from_is_err_and c.from_residual.result c.from_residual.ensures.1 in rw (p.1, p.2) (checks-refused c.prepared_of-dual.ensures c.in_err-dual.was)

pub returns : goal.returns
returns c = checks-given c.prepared_of-dual.ensures c.in_ok-dual.was c.put_checks.ensures
