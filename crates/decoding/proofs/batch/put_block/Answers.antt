-- `decoding::batch::put_block` meets its contract.
use borrow.Author.Rules.{rules}
use Rattle.decoding.proofs.batch.put_block.Goals as goal

pub returns : goal.returns
returns c =
    let found = c.search_block-answer in
    record { answer = found.result; searched = found.ensures; words_are = search rules; scores_are = search rules; counts_are = search rules }
