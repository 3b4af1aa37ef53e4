-- `telling::put_word` meets its contract.
use Rattle.outlines.proofs.Comparisons.{word-put}
use Rattle.outlines.proofs.telling.put_word.Goals as goal

pub returns : goal.returns
returns c = search word-put
