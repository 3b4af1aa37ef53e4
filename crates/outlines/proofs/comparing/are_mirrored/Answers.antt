-- `comparing::are_mirrored` meets its contract.
use borrow.Author.Rules.{rules}
use Rattle.outlines.proofs.Settling.{mirrored-both, mirrored-not, turned-about}
use Rattle.outlines.proofs.comparing.are_mirrored.Goals as goal

pub all_mirrored-requires : goal.all_mirrored-requires
all_mirrored-requires c =
    record {
      prepared = search rules;
      prepared_2 = search rules;
      n_value = search rules;
    }

pub all_mirrored-requires-then-all_mirrored : goal.all_mirrored-requires-then-all_mirrored
all_mirrored-requires-then-all_mirrored c =
    record {
      prepared = search rules;
      prepared_2 = search rules;
      n_value = search turned-about;
    }

pub returns-then-all_mirrored : goal.returns-then-all_mirrored
returns-then-all_mirrored c = search mirrored-both

pub returns-else-all_mirrored : goal.returns-else-all_mirrored
returns-else-all_mirrored c = search mirrored-not
