-- `decoding::live::mark_of` meets its contract.
use Rattle.decoding.proofs.PassedRows.{mark-is}
use Rattle.decoding.proofs.live.mark_of.Goals as goal

pub returns : goal.returns
returns c = mark-is c.args.following c.if-following-eq0.false c.requires
