-- `compare_plates` meets its contract.
use borrow.Author.Rules.{rules}
use Rattle.outlines.proofs.Comparisons.{plates-told, plates-untold}
use Rattle.outlines.proofs.Fitting.{plate-short}
use Rattle.outlines.proofs.compare_plates.Goals as goal

pub tell-told-requires : goal.tell-told-requires
tell-told-requires c =
    record {
      prepared = search rules;
      prepared_2 = search rules;
    }

pub write_told-requires : goal.write_told-requires
write_told-requires c = search plate-short

pub returns-in-Ok : goal.returns-in-Ok
returns-in-Ok c = search plates-told

pub returns-in-Err : goal.returns-in-Err
returns-in-Err c = search plates-untold
