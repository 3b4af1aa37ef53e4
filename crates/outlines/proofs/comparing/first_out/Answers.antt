-- `comparing::first_out` meets its contract.
use Rattle.outlines.proofs.RowsSearched.{loop-end, loop-on, loop-start, rest-left, row-left, row-there}
use Rattle.outlines.proofs.comparing.first_out.Goals as goal

pub returns-then-left_of-ne0 : goal.returns-then-left_of-ne0
returns-then-left_of-ne0 c = search rest-left

pub loop-j-init : goal.loop-j-init
loop-j-init c = search loop-start

pub word_of-word-requires : goal.word_of-word-requires
word_of-word-requires c = search row-there

pub returns-then-left_of-ne0-2 : goal.returns-then-left_of-ne0-2
returns-then-left_of-ne0-2 c = search row-left

pub loop-j-preserved : goal.loop-j-preserved
loop-j-preserved c = search loop-on

pub returns : goal.returns
returns c = search loop-end
