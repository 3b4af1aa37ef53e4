-- `cover::read_cover` meets its contract.
use lib.Seq.{length-take-le}
use mathlib.Core.Path.{sym}
use Rattle.sheets.proofs.Parts.{parts-front}
use Rattle.sheets.specs.Text.{tab}
use Rattle.sheets.proofs.cover.read_cover.Goals as goal

pub slice_bounds-read_word-end : goal.slice_bounds-read_word-end
slice_bounds-read_word-end c = sym (length-take-le _ _ c.until-a.ensures.high)

pub returns : goal.returns
returns c =
    let u = c.until-a in
    rw (parts-front tab c.args.line.now u.result u.ensures, sym c.read_word-word.ensures) c.cover_by.ensures
