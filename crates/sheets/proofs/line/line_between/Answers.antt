-- `line::line_between` meets its contract.
use Rattle.sheets.proofs.Parts.{after-some, from_last, from_more}
use Rattle.sheets.specs.Text.{line_feed}
use Rattle.sheets.proofs.line.line_between.Goals as goal

pub returns-then-end-input : goal.returns-then-end-input
returns-then-end-input c =
    let a = c.args in
    rw (from_last line_feed a.input.now a.at a.end c.requires.at_in_bounds c.requires.until c.if-end-input.true)

pub returns : goal.returns
returns c =
    let a = c.args in
    let u = c.requires.until in
    rw (from_more line_feed a.input.now a.at a.end c.requires.at_in_bounds u, after-some line_feed a.input.now a.end u.high c.if-end-input.false)
    c.read_line.ensures
