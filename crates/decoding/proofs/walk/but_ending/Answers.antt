-- `decoding::walk::but_ending` meets its contract.
use native.Mathlib.Omega.{arith}
use Rattle.decoding.proofs.MarkCounts.{none-ends, one-ends}
use Rattle.decoding.proofs.walk.but_ending.Goals as goal

pub overflow_sub-result : goal.overflow_sub-result
overflow_sub-result c = omega (arith, c.requires, one-ends c.args.following c.if-following-eq0.false)

pub returns-then-following-eq0 : goal.returns-then-following-eq0
returns-then-following-eq0 c = omega (arith, none-ends c.args.following c.if-following-eq0.true)

pub returns-else-following-eq0 : goal.returns-else-following-eq0
returns-else-following-eq0 c = omega (arith, one-ends c.args.following c.if-following-eq0.false)
