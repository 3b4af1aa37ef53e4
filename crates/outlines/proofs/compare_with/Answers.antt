-- `compare_with` meets its contract.
use borrow.Author.Rules.{rules}
use Rattle.outlines.proofs.Comparisons.{second-compared, second-refused}
use Rattle.outlines.proofs.Replying.{opened-prepared}
use Rattle.outlines.proofs.compare_with.Goals as goal

pub compare_plates-requires : goal.compare_plates-requires
compare_plates-requires c =
    record {
      prepared = search rules;
      prepared_2 = search opened-prepared;
    }

pub returns-in-Err : goal.returns-in-Err
returns-in-Err c = search second-refused

pub returns-in-Ok : goal.returns-in-Ok
returns-in-Ok c = search second-compared
