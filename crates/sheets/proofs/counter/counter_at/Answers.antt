-- `counter::counter_at` meets its contract.
use Rattle.sheets.specs.Text.{line_feed}
use Rattle.sheets.specs.Blocks.{counter_front}
use Rattle.sheets.proofs.Parts.{from_more, from-none}
use native.Mathlib.Omega.{arith}
use mathlib.Core.Path.{◌∙◌, ap, sym}
use Rattle.sheets.proofs.counter.counter_at.Goals as goal

pub returns-then-input-at : goal.returns-then-input-at
returns-then-input-at c =
    let a = c.args in
    ap counter_front (sym (from-none line_feed a.input.now a.at c.if-input-at.true))

pub returns : goal.returns
returns c =
    let a = c.args in
    let u = c.until-end in
    c.counter_in.ensures ∙ ap counter_front (sym (from_more line_feed a.input.now a.at u.result (omega arith) u.ensures))
