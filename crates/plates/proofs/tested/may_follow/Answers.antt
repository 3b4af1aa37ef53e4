-- `plates::tested::may_follow` meets its contract.
use native.Mathlib.Omega.{arith}
use Rattle.plates.proofs.Deciding.{fails, holds}
use Rattle.plates.proofs.RowsPlaced.{begins-soon, ends-late, ends-together, follows}
use Rattle.plates.proofs.tested.may_follow.Goals as goal

pub returns-then-n-last : goal.returns-then-n-last
returns-then-n-last c = fails (ends-late _ _ _ _ c.requires c.ranges.row.fits c.last_one-last.ensures c.if-n-last.true)

pub returns-then-first_one-from : goal.returns-then-first_one-from
returns-then-first_one-from c =
    fails (begins-soon _ _ _ _ c.requires c.ranges.row.fits c.first_one.ensures c.if-first_one-from.true)

pub returns-then-by_last-last-lt64 : goal.returns-then-by_last-last-lt64
returns-then-by_last-last-lt64 c =
    fails (ends-together _ _ _ _ c.requires c.ranges.row.fits c.last_one-last.ensures (omega arith))

pub returns : goal.returns
returns c =
    holds (follows _ _ _ _ c.requires c.ranges.row.fits c.last_one-last.ensures c.if-n-last.false
    c.first_one.ensures c.if-first_one-from.false (omega arith))
