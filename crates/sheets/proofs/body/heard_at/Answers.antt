-- `body::heard_at` meets its contract.
use Rattle.sheets.specs.Text.{line_feed}
use Rattle.sheets.specs.Blocks.{heard_front}
use Rattle.sheets.proofs.Parts.{from_more}
use native.Mathlib.Omega.{arith}
use mathlib.Core.Path.{◌∙◌, ap, sym}
use Rattle.sheets.proofs.body.heard_at.Goals as goal

pub returns : goal.returns
returns c =
    let a = c.args in
    let u = c.until-end in
    c.begins_heard.ensures ∙ ap heard_front (sym (from_more line_feed a.input.now a.at u.result (omega arith) u.ensures))
