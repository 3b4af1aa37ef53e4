-- `number::leading_zero` meets its contract.
use borrow.Author.Tests.{le-ltb, lt-ltb}
use lib.ListN.{length}
use Rattle.sheets.proofs.number.leading_zero.Goals as goal

pub returns-then-f-gt1 : goal.returns-then-f-gt1
returns-then-f-gt1 c = rw (lt-ltb 1 (length c.args.f.now) c.if-f-gt1.true)

pub returns-else-f-gt1 : goal.returns-else-f-gt1
returns-else-f-gt1 c = rw (le-ltb 1 (length c.args.f.now) c.if-f-gt1.false)
