-- `trellises::places::next_state` meets its contract.
use Rattle.trellises.proofs.places.next_state.Goals as goal

pub returns-then-section : goal.returns-then-section
returns-then-section c = rw c.if-section.true c.without_digit.ensures
