-- `blocks::block_line` meets its contract.
use Rattle.sheets.specs.Blocks.{block_at, counter_at, next_line}
use Rattle.reports.proofs.WrittenSteps.{only-writes}
use Rattle.reports.proofs.BlockSteps.{block-step, end_step, places-size}
use Rattle.std.proofs.Common.{replicate, pos, sym, refl, ◌∙◌}
use Rattle.reports.proofs.blocks.block_line.Goals as goal

pub samples_line-requires : goal.samples_line-requires
samples_line-requires c =
    let a = c.args in
    rw c.read_block-reply.ensures.samples (places-size a.report.order (replicate 64 (pos 0)) refl (block_at a.report.heard a.input.now a.report.at))

pub returns-in-Some : goal.returns-in-Some
returns-in-Some c =
    let a = c.args in
    let r = c.read_block-reply in
    block-step (replicate 64 (pos 0)) refl (block_at a.report.heard a.input.now a.report.at) (counter_at a.input.now a.report.at) (next_line a.input.now a.report.at)
    c.in-Some.field-0.samples c.in-Some.field-0.next _ (sym c.in-Some.is ∙ r.ensures.reply) r.ensures.samples (rw c.read_counter-counter.ensures at c.samples_line.ensures)

pub returns-in-None : goal.returns-in-None
returns-in-None c =
    let a = c.args in
    end_step (replicate 64 (pos 0)) refl (block_at a.report.heard a.input.now a.report.at) (counter_at a.input.now a.report.at) (next_line a.input.now a.report.at)
    (sym c.in-None.is ∙ c.read_block-reply.ensures.reply) (only-writes c.close_line.ensures)
