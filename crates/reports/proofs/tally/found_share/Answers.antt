-- `tally::found_share` meets its contract.
use Rattle.reports.proofs.tally.found_share.Goals as goal

pub returns-in-First : goal.returns-in-First
returns-in-First c = rw c.in-First.is c.decoded_share.ensures

pub returns-in-OutOfTurn : goal.returns-in-OutOfTurn
returns-in-OutOfTurn c = rw c.in-OutOfTurn.is c.decoded_share-in-OutOfTurn.ensures

pub returns-in-Onward : goal.returns-in-Onward
returns-in-Onward c = rw c.in-Onward.is c.decoded_share-in-Onward.ensures
