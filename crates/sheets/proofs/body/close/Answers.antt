-- `body::close` meets its contract.
use borrow.Author.Tests.{le-ltb, lt-ltb}
use Rattle.sheets.proofs.body.close.Goals as goal

pub returns-then-rows-gt64 : goal.returns-then-rows-gt64
returns-then-rows-gt64 c = rw (c.in-Fine.is, lt-ltb 64 c.args.sheet.rows c.if-rows-gt64.true)

pub returns-in-NoEnd : goal.returns-in-NoEnd
returns-in-NoEnd c = rw (c.in-NoEnd.is, c.refusal_of.ensures)

pub returns-in-After : goal.returns-in-After
returns-in-After c = rw (c.in-After.is, c.refusal_of-in-After.ensures)

pub returns-else-rows-gt64 : goal.returns-else-rows-gt64
returns-else-rows-gt64 c = rw (c.in-Fine.is, le-ltb 64 c.args.sheet.rows c.if-rows-gt64.false)
