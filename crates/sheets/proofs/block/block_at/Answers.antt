-- `block::block_at` meets its contract.
use mathlib.Core.Path.{◌∙◌, sym}
use native.Mathlib.Omega.{arith}
use Rattle.sheets.proofs.BlockPlaces.{block-there, no-block-there, open-line, past_end}
use Rattle.sheets.proofs.block.block_at.Goals as goal

pub returns-then-input-at : goal.returns-then-input-at
returns-then-input-at c = past_end c.args.heard c.args.input.now c.args.at c.if-input-at.true

pub returns-then-end-input : goal.returns-then-end-input
returns-then-end-input c =
    let a = c.args in
    let u = c.until-end in
    open-line a.heard a.input.now a.at u.result (omega arith) u.ensures c.if-end-input.true

pub returns-in_default : goal.returns-in_default
returns-in_default c =
    let a = c.args in
    let u = c.until-end in
    no-block-there a.heard a.input.now a.at u.result (omega arith) u.ensures c.if-end-input.false c.in_default.field-0 (sym c.read_block_line-found.ensures.is ∙ c.in_default.is)

pub returns : goal.returns
returns c =
    let a = c.args in
    let u = c.until-end in
    block-there a.heard a.input.now a.at u.result (omega arith) u.ensures c.if-end-input.false c.in-Ok.samples (sym c.read_block_line-found.ensures.is ∙ c.in-Ok.is)
