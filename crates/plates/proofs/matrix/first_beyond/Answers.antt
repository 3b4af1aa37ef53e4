-- `plates::matrix::first_beyond` meets its contract: a search.
use native.Mathlib.Omega.{arith}
use Rattle.plates.proofs.Searching.{search-found, search-on, search-over, search-start}
use Rattle.plates.proofs.matrix.first_beyond.Goals as goal

pub loop-i-init : goal.loop-i-init
loop-i-init c = search-start (omega arith)

pub returns-then-reaches : goal.returns-then-reaches
returns-then-reaches c = search-found c.loop-i.invariant c.loop-i-test.true (c.reaches.ensures.yes_is c.if-reaches.true)

pub loop-i-preserved : goal.loop-i-preserved
loop-i-preserved c = search-on c.loop-i.invariant c.loop-i-test.true (c.reaches.ensures.no_is c.if-reaches.false)

pub returns : goal.returns
returns c = search-over c.loop-i.invariant c.loop-i-test.false
