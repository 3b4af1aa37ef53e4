-- `outlining::write_text` meets its contract.
use Rattle.programs.proofs.TextsSaid.{dual-text, sheet-text}
use Rattle.programs.proofs.outlining.write_text.Goals as goal

pub returns-in-Sheet : goal.returns-in-Sheet
returns-in-Sheet c = search sheet-text

pub returns-in-Dual : goal.returns-in-Dual
returns-in-Dual c = search dual-text
