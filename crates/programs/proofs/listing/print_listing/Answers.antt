-- `listing::print_listing` meets its contract.
use Rattle.programs.proofs.RunEnds.{all-taken, not-all-taken}
use Rattle.programs.proofs.listing.print_listing.Goals as goal

pub returns-in-Some : goal.returns-in-Some
returns-in-Some g c = search all-taken

pub returns-in-None : goal.returns-in-None
returns-in-None g c = not-all-taken
