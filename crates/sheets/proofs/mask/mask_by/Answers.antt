-- `mask::mask_by` meets its contract.
use Rattle.sheets.proofs.MaskLines.{no-mask-word}
use Rattle.sheets.proofs.mask.mask_by.Goals as goal

pub returns-in_default : goal.returns-in_default
returns-in_default c = no-mask-word _ _ _ _ c.in_default.not-Mask
