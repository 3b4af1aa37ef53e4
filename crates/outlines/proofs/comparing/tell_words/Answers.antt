-- `comparing::tell_words` meets its contract.
use borrow.Author.Rules.{rules}
use Rattle.outlines.proofs.Settling.{told-mirrored, told-settled, turned-about}
use Rattle.outlines.proofs.comparing.tell_words.Goals as goal

pub outside-one-requires : goal.outside-one-requires
outside-one-requires c =
    record {
      prepared = search rules;
      prepared_2 = search rules;
      n_value = search rules;
    }

pub outside-other-requires : goal.outside-other-requires
outside-other-requires c =
    record {
      prepared = search rules;
      prepared_2 = search rules;
      n_value = search turned-about;
    }

pub are_mirrored-requires : goal.are_mirrored-requires
are_mirrored-requires c =
    record {
      prepared = search rules;
      prepared_2 = search rules;
      n_value = search rules;
    }

pub returns-then-are_mirrored : goal.returns-then-are_mirrored
returns-then-are_mirrored c = search told-mirrored

pub returns : goal.returns
returns c = search told-settled
