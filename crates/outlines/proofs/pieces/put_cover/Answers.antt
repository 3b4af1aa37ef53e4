-- `pieces::put_cover` meets its contract.
use Rattle.outlines.proofs.Putting.{cover-put}
use Rattle.outlines.proofs.pieces.put_cover.Goals as goal

pub returns : goal.returns
returns c =
    let args = c.args in
    cover-put args.kind args.n c.put-long.ensures c.put_number-tab.ensures c.put_byte-letter.ensures c.letter_of.ensures
    c.put_byte-order.ensures c.put.ensures
