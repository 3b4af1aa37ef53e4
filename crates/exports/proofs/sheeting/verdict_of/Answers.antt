-- `exports::sheeting::verdict_of` meets its contract.
use mathlib.Core.Path.{ap, sym}
use Rattle.exports.specs.Sheeting.{verdict_of}
use Rattle.exports.proofs.sheeting.verdict_of.Goals as goal

pub returns-in-Refused : goal.returns-in-Refused
returns-in-Refused c = sym (ap verdict_of c.in-Refused.is)
