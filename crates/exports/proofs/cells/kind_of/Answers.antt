-- `exports::cells::kind_of` meets its contract.
use Rattle.exports.proofs.CallsMade.{kind-other}
use Rattle.exports.proofs.cells.kind_of.Goals as goal

pub returns : goal.returns
returns c = kind-other c.args.kind c.if-kind-eq0.false
