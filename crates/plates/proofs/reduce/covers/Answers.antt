-- `plates::reduce::covers` meets its contract.
use Rattle.plates.proofs.HeadsCleared.{covers-no, covers-yes}
use Rattle.plates.proofs.reduce.covers.Goals as goal

pub returns-then-last-last_one : goal.returns-then-last-last_one
returns-then-last-last_one c = covers-yes c.ranges.word.fits c.last_one.ensures c.if-last-last_one.true c.bit_at.ensures

pub returns : goal.returns
returns c = covers-no c.ranges.word.fits c.last_one.ensures c.if-last-last_one.false
