-- `block::read_rest` meets its contract.
use Rattle.sheets.proofs.Sampling.{read-bad}
use Rattle.sheets.proofs.BlockLines.{not-block, not-heard}
use Rattle.sheets.proofs.block.read_rest.Goals as goal

pub returns-in_default : goal.returns-in_default
returns-in_default c =
    let a = c.args in
    rw c.if-heard.true (read-bad _ _ a.room.now a.room.now 1 (not-heard a.word _ c.in_default.not-Heard))

pub returns-then-heard : goal.returns-then-heard
returns-then-heard c = rw (c.if-heard.true, c.in-Heard.is) c.read_heard.ensures

pub returns-in_default-word : goal.returns-in_default-word
returns-in_default-word c =
    let a = c.args in
    rw c.if-heard.false (read-bad _ _ a.room.now a.room.now 1 (not-block a.word _ c.in_default-word.not-Block))

pub returns : goal.returns
returns c = rw (c.if-heard.false, c.in-Block.is) c.read_samples.ensures
