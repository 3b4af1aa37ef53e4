-- `body::begins_heard` meets its contract.
use Rattle.sheets.proofs.BlockLines.{heard-by}
use mathlib.Core.Path.{◌∙◌, sym}
use lib.Seq.{length-take-le}
use Rattle.sheets.proofs.body.begins_heard.Goals as goal

pub slice_bounds-read_word-end : goal.slice_bounds-read_word-end
slice_bounds-read_word-end c = sym (length-take-le _ _ c.until-end.ensures.high)

pub returns : goal.returns
returns c =
    let a = c.args in
    let u = c.until-end in
    c.is_heard.ensures ∙ sym (heard-by a.line.now u.result u.ensures _ (sym c.read_word-word.ensures))
