-- `block::read_block_line` meets its contract.
use lib.Seq.{length-take-le}
use mathlib.Core.Path.{sym}
use Rattle.sheets.proofs.BlockLines.{by_word}
use Rattle.sheets.proofs.block.read_block_line.Goals as goal

pub slice_bounds-read_word-end : goal.slice_bounds-read_word-end
slice_bounds-read_word-end c = sym (length-take-le _ _ c.until-end.ensures.high)

pub returns : goal.returns
returns c =
    let a = c.args in
    let u = c.until-end in
    by_word a.line.now u.result u.ensures _ (sym c.read_word-word.ensures) a.heard a.room.now c.read_rest.result _ c.read_rest.ensures
