-- `listed::read_branch` meets its contract.
use lib.Seq.{length-take-le}
use mathlib.Core.Path.{sym, ◌∙◌}
use Rattle.sheets.proofs.Parts.{parts-front}
use Rattle.sheets.specs.Text.{tab}
use Rattle.sheets.proofs.listed.read_branch.Goals as goal

pub slice_bounds-is_text-end : goal.slice_bounds-is_text-end
slice_bounds-is_text-end c = sym (length-take-le _ _ c.until-a.ensures.high)

pub returns-then-is_text : goal.returns-then-is_text
returns-then-is_text c =
    let u = c.until-a in
    rw (parts-front tab c.args.line.now u.result u.ensures, sym c.is_text.ensures ∙ c.if-is_text.true) c.branch_rest.ensures

pub returns : goal.returns
returns c =
    let u = c.until-a in
    rw (parts-front tab c.args.line.now u.result u.ensures, sym c.is_text.ensures ∙ c.if-is_text.false)
