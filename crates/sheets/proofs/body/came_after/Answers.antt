-- `body::came_after` meets its contract.
use Rattle.sheets.proofs.Endings.{came-blocks, came-heards}
use Rattle.sheets.proofs.body.came_after.Goals as goal

pub returns-then-heard : goal.returns-then-heard
returns-then-heard c = rw c.if-heard.true (came-heards c.args.count c.if-count-eq0.false)

pub returns : goal.returns
returns c = rw c.if-heard.false (came-blocks c.args.count c.if-count-eq0.false)
