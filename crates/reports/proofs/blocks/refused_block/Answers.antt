-- `blocks::refused_block` meets its contract.
use Rattle.std.proofs.Common.{refl}
use Rattle.reports.proofs.WrittenSteps.{not-printed, printed}
use Rattle.reports.proofs.blocks.refused_block.Goals as goal

pub returns-then-is_of_block : goal.returns-then-is_of_block
returns-then-is_of_block c =
    let a = c.args in
    printed a.refusal a.before a.after c.is_of_block.ensures c.if-is_of_block.true c.refused_line.ensures

pub returns : goal.returns
returns c =
    let a = c.args in
    not-printed a.refusal a.before a.after c.is_of_block.ensures c.if-is_of_block.false c.refused_step.ensures refl
