-- `plates::reduce::ends_at` meets its contract.
use Rattle.plates.proofs.Deciding.{alike, equal}
use Rattle.plates.proofs.LastOnesParted.{ends-no, ends-yes}
use Rattle.plates.proofs.reduce.ends_at.Goals as goal

pub returns : goal.returns
returns c = alike (ends-yes c.requires c.last_one.ensures) (ends-no c.last_one.ensures) (equal _ _)
