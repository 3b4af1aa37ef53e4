-- `counter::worth` meets its contract.
use Rattle.sheets.proofs.counter.worth.Goals as goal

pub small-requires : goal.small-requires
small-requires c = rw c.in-Some.is at c.requires
