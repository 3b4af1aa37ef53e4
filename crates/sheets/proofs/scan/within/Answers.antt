-- `scan::within` meets its contract.
use borrow.Author.Tests.{le-leb, lt-leb}
use Rattle.sheets.proofs.scan.within.Goals as goal

pub returns-then-low-x : goal.returns-then-low-x
returns-then-low-x c = rw (le-leb c.args.low c.args.x c.if-low-x.true)

pub returns-else-low-x : goal.returns-else-low-x
returns-else-low-x c = rw (lt-leb c.args.low c.args.x c.if-low-x.false)
