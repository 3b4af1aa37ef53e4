-- `body::check_lines` meets its contract.
use Rattle.sheets.proofs.Bodies.{lines_are}
use Rattle.sheets.proofs.body.check_lines.Goals as goal

pub returns : goal.returns
returns c = search lines_are
