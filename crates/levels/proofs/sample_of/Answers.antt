-- `levels::sample_of` meets its contract.
use mathlib.Core.Path.{ap, sym}
use Rattle.levels.specs.Choosing.{sample_of}
use Rattle.levels.proofs.Tests.{erased-is}
use Rattle.levels.proofs.sample_of.Goals as goal

pub returns-then-mark-eq0 : goal.returns-then-mark-eq0
returns-then-mark-eq0 c = sym (ap (sample_of c.args.value) c.if-mark-eq0.true)

pub returns : goal.returns
returns c = erased-is c.args.value c.args.mark c.if-mark-eq0.false
