-- `comparing::tell` meets its contract.
use borrow.Author.Rules.{rules}
use Rattle.outlines.proofs.Settling.{told-lengths}
use Rattle.outlines.proofs.comparing.tell.Goals as goal

pub returns-then-first-second : goal.returns-then-first-second
returns-then-first-second c = search told-lengths

pub tell_words-requires : goal.tell_words-requires
tell_words-requires c =
    record {
      prepared = search rules;
      prepared_2 = search rules;
      n_value = search rules;
    }
