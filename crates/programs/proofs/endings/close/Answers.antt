-- `endings::close` meets its contract.
use Rattle.programs.proofs.RunEnds.{status-listed, status-refused, status-unwritten}
use Rattle.programs.proofs.endings.close.Goals as goal

pub returns-in-Listed : goal.returns-in-Listed
returns-in-Listed g c = search status-listed

pub returns-in-Refused : goal.returns-in-Refused
returns-in-Refused g c = search status-refused

pub returns-in-Unwritten : goal.returns-in-Unwritten
returns-in-Unwritten g c = search status-unwritten
