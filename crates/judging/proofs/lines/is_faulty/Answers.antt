-- `lines::is_faulty` meets its contract.
use Rattle.judging.proofs.lines.is_faulty.Goals as goal

pub returns-in-Some : goal.returns-in-Some
returns-in-Some c = rw c.in-Some.is

pub returns-in-None : goal.returns-in-None
returns-in-None c = rw c.in-None.is
