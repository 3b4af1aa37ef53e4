-- `checks::write_alist` meets its contract.
use Rattle.std.proofs.lemmas.Result.{err_from_is_err_and}
use Rattle.outlines.proofs.ChecksWritten.{alist-given, alist-refused}
use Rattle.outlines.proofs.Openings.{rows-within}
use Rattle.outlines.proofs.checks.write_alist.Goals as goal

pub write_checks-requires : goal.write_checks-requires
write_checks-requires c = rows-within c.read_sheet.ensures c.in_ok-sheet.was

pub returns-in_err-sheet : goal.returns-in_err-sheet
returns-in_err-sheet c = let p = err_from_is_err_and c.from_residual.result c.from_residual.ensures.1 in rw (p.1, p.2) (alist-refused c.read_sheet.ensures c.in_err-sheet.was)

pub returns : goal.returns
returns c = alist-given c.read_sheet.ensures c.in_ok-sheet.was c.write_checks.ensures
