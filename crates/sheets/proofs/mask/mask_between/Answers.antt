-- `mask::mask_between` meets its contract.
use Rattle.sheets.proofs.MaskLines.{no_line, line-there}
use Rattle.sheets.proofs.mask.mask_between.Goals as goal

pub returns-then-end-input : goal.returns-then-end-input
returns-then-end-input c = search no_line

pub returns : goal.returns
returns c = search line-there
