-- `blocks::found_line` meets its contract.
use Rattle.std.proofs.Common.{refl}
use Rattle.reports.proofs.blocks.found_line.Goals as goal

pub returns-then-silent : goal.returns-then-silent
returns-then-silent c = rw c.if-silent.true (c.silent_step.ensures, refl)

pub returns : goal.returns
returns c = rw c.if-silent.false c.word_line.ensures
