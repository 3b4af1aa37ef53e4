-- `write_same` meets its contract.
use Rattle.outlines.proofs.Comparisons.{first-compared, first-refused}
use Rattle.outlines.proofs.Replying.{opened-prepared}
use Rattle.outlines.proofs.write_same.Goals as goal

pub compare_with-requires : goal.compare_with-requires
compare_with-requires c = search opened-prepared

pub returns-in-Err : goal.returns-in-Err
returns-in-Err c = search first-refused

pub returns-in-Ok : goal.returns-in-Ok
returns-in-Ok c = search first-compared
