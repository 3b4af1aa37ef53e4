-- `judge` meets its contract: it is the call over the plate's parts.
use Rattle.judging.proofs.judge.Goals as goal

pub returns : goal.returns
returns c = rw (c.lend.ensures.whole c.widened-profile.ensures) at c.judge_parts.ensures
