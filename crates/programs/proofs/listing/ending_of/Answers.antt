-- `listing::ending_of` meets its contract.
use Rattle.programs.proofs.listing.ending_of.Goals as goal

pub returns-in-Refused : goal.returns-in-Refused
returns-in-Refused c = rw c.in-Refused.is
