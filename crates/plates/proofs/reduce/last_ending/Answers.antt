-- `plates::reduce::last_ending` meets its contract: a search from the end.
use Rattle.plates.proofs.Searching.{down-found, down-on, down-over, down-start}
use Rattle.plates.proofs.reduce.last_ending.Goals as goal

pub loop-i-init : goal.loop-i-init
loop-i-init c = down-start

pub returns-then-ends_at : goal.returns-then-ends_at
returns-then-ends_at c = down-found c.loop-i.invariant c.loop-i-test.true (c.ends_at.ensures.yes_is c.if-ends_at.true)

pub loop-i-preserved : goal.loop-i-preserved
loop-i-preserved c = down-on c.loop-i.invariant c.loop-i-test.true (c.ends_at.ensures.no_is c.if-ends_at.false)

pub returns : goal.returns
returns c = down-over c.loop-i.invariant c.loop-i-test.false
