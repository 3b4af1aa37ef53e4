-- `comparing::all_mirrored` meets its contract.
use borrow.Author.Rules.{rules}
use Rattle.outlines.proofs.Settling.{mirrored-where-none}
use Rattle.outlines.proofs.comparing.all_mirrored.Goals as goal

pub outside-requires : goal.outside-requires
outside-requires c =
    record {
      prepared = search rules;
      prepared_2 = search rules;
      n_value = search rules;
    }

pub returns : goal.returns
returns c = search mirrored-where-none
